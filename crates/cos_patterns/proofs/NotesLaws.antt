-- What an index notes after a change.
use Rattle.std.proofs.Common.{◌≡◌, ◌<◌, ◌&&◌, ◌==◌, ℕ, zero, suc, Bool, true, false, cond, if◌then◌else◌, List, Option, Some, None, length, get_or, set, arith, refl, ap, sym, ◌∙◌, get_or-set_same, get_or-set_other}
use Rattle.std.proofs.Math.ListN.{replicate}
use Rattle.std.specs.Map.{update}
use Rattle.std.specs.Str.{bytes_eq}
use Rattle.std.proofs.lemmas.Grind.{common_steps}
use Rattle.std.proofs.lemmas.Bool.Decides.{nat_tests}
use Rattle.std.proofs.lemmas.Slice.Eq.{bytes_eq-Decides}
use Rattle.cos_patterns.specs.declared.notes.Note.{Note}
use Rattle.cos_patterns.specs.declared.notes.Note.TheVariants.{Nothing}
use Rattle.cos_patterns.specs.Notes.{note_among}

-- the notes of a text, where one was set
pub set_at : (notes : List Note) (flags those : ℕ) (note : Note) → flags < length notes →
    get_or (set notes flags note) those Nothing ≡ (if flags == those then note else get_or notes those Nothing)
set_at notes flags those note within = grind (arith, common_steps, nat_tests, get_or-set_same notes flags note Nothing within, get_or-set_other notes flags those note Nothing)

-- eight notes of nothing
abbrev pub nothing : List Note
nothing = replicate 8 Nothing

nothing_at : (count k : ℕ) → get_or (replicate count Nothing) k Nothing ≡ Nothing
nothing_at zero k = refl
nothing_at (suc count) zero = refl
nothing_at (suc count) (suc k) = nothing_at count k

-- the notes of another text, and of this one where nothing was noted of it
module _ (find : List ℕ → Option (List Note)) (body other : List ℕ) where
  more_at : (flags : ℕ) (same : Bool) → (same ≡ true → find other ≡ None) →
      note_among (cond same (Some nothing) (find other)) flags ≡ note_among (find other) flags
  more_at flags true new = nothing_at 8 flags ∙ sym (ap (λ found. note_among found flags) (new refl))
  more_at flags false new = refl

  -- notes of nothing at a text that had none
  pub nothing_more : (flags : ℕ) → find body ≡ None →
      note_among (update bytes_eq find body (Some nothing) other) flags ≡ note_among (find other) flags
  nothing_more flags new =
      more_at flags (bytes_eq body other) (λ same. ap find (sym ((bytes_eq-Decides body other).0 same)) ∙ new)

  set_in : (notes later : List Note) (flags those : ℕ) (note : Note) (same : Bool) →
      ((k : ℕ) → get_or later k Nothing ≡ (if flags == k then note else get_or notes k Nothing)) →
      (same ≡ true → find other ≡ Some notes) →
      note_among (cond same (Some later) (find other)) those
      ≡ (if same && (flags == those) then note else note_among (find other) those)
  set_in notes later flags those note true changed found =
      changed those ∙ ap (λ before. if flags == those then note else note_among before those) (sym (found refl))
  set_in notes later flags those note false changed found = refl

  -- a note for some flags at a text that has notes
  pub note_set : (notes later : List Note) (flags those : ℕ) (note : Note) →
      ((k : ℕ) → get_or later k Nothing ≡ (if flags == k then note else get_or notes k Nothing)) → find body ≡ Some notes →
      note_among (update bytes_eq find body (Some later) other) those
      ≡ (if bytes_eq body other && (flags == those) then note else note_among (find other) those)
  note_set notes later flags those note changed found =
      set_in notes later flags those note (bytes_eq body other) changed (λ same. ap find (sym ((bytes_eq-Decides body other).0 same)) ∙ found)
