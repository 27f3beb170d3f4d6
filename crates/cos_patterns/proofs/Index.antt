-- How an index goes on fitting its table.
use Rattle.std.proofs.Common.{◌≡◌, ◌<◌, ◌⊎◌, inl, inr, ℕ, Bool, true, false, if◌then◌else◌, List, [], ◌∷◌, ◌++◌, length, IsTrue, refl, subst}
use Rattle.cos_patterns.specs.declared.notes.Note.{Note}
use Rattle.cos_patterns.specs.declared.notes.Note.TheVariants.{Nothing, Held, Large, Unread}
use Rattle.cos_patterns.specs.declared.notes.Notes.{Notes}
use Rattle.cos_patterns.specs.declared.written.Written.{Written}
use Rattle.cos_patterns.specs.Found.{is_read}
use Rattle.cos_patterns.specs.Notes.{noted_in, Says, IsIndexOf}
use Rattle.cos_patterns.specs.Tables.{Noted, is_noted}
use Rattle.cos_patterns.specs.Written.{is_in, is_same}
use Rattle.cos_patterns.proofs.Agreement.{not_noted, in_others, noted_as}
use Rattle.cos_patterns.proofs.Numbers.{place_stays}
use Rattle.cos_patterns.proofs.Places.{same_is, added_is_in, place_at_end}

-- an index that says the same of each pattern
pub same_index : (before after : Notes) (table : Noted) → ((pattern : Written) → noted_in after pattern ≡ noted_in before pattern) →
    IsIndexOf before table → IsIndexOf after table
same_index before after table same fits = λ pattern small. rw (same pattern) (fits pattern small)

-- an index that says the same of each pattern but one
module _ (before after : Notes) (table later : Noted) (added : Written) (note : Note)
    (changed : (pattern : Written) → noted_in after pattern ≡ (if is_same added pattern then note else noted_in before pattern))
    (here : Says note added later)
    (there : (was : Note) (pattern : Written) → is_same added pattern ≡ false → Says was pattern table → Says was pattern later)
    (fits : IsIndexOf before table) where
  by_cases : (pattern : Written) (same : Bool) → is_same added pattern ≡ same → pattern.flags < 8 →
      Says (if same then note else noted_in before pattern) pattern later
  by_cases pattern true same small = subst (λ (one : Written). Says note one later) (same_is added pattern same) here
  by_cases pattern false differs small = there (noted_in before pattern) pattern differs (fits pattern small)

  pub changed_index : IsIndexOf after later
  changed_index = λ pattern small. rw (changed pattern) (by_cases pattern (is_same added pattern) refl small)

-- what is said of a pattern that wasn't noted before
module _ (table : Noted) (added : Written) (new : is_noted added table ≡ false) where
  pub says_held : IsTrue (is_read added.body added.flags) →
      Says (Held (length table.patterns)) added (noted_as (table.patterns ++ added ∷ []) table.large table.unread)
  says_held read = (place_at_end added table.patterns (not_noted added table new).0, (not_noted added table new).1, (not_noted added table new).2, read)

  pub says_large : Says Large added (noted_as table.patterns (table.large ++ added ∷ []) table.unread)
  says_large = (added_is_in added table.large, (not_noted added table new).2, (not_noted added table new).0)

  pub says_unread : Says Unread added (noted_as table.patterns table.large (table.unread ++ added ∷ []))
  says_unread = ((not_noted added table new).1, added_is_in added table.unread, (not_noted added table new).0)

-- a pattern isn't held where a note gives no number
pub not_held : (note : Note) (pattern : Written) (table : Noted) → (note ≡ Nothing) ⊎ ((note ≡ Large) ⊎ (note ≡ Unread)) → Says note pattern table →
    is_in pattern table.patterns ≡ false
not_held note pattern table (inl is) says = (not_noted pattern table (rw is at says)).0
not_held note pattern table (inr (inl is)) says = (rw is at says).2
not_held note pattern table (inr (inr is)) says = (rw is at says).2

-- what is said of another pattern stays
module _ (table : Noted) (added pattern : Written) (differs : is_same added pattern ≡ false) where
  pub stays_held : (was : Note) → Says was pattern table → Says was pattern (noted_as (table.patterns ++ added ∷ []) table.large table.unread)
  stays_held Nothing says = rw (in_others table.patterns added pattern differs) says
  stays_held (Held number) says = (place_stays pattern table.patterns (added ∷ []) number says.0, says.1, says.2, says.3)
  stays_held Large says = rw (in_others table.patterns added pattern differs) says
  stays_held Unread says = rw (in_others table.patterns added pattern differs) says

  pub stays_large : (was : Note) → Says was pattern table → Says was pattern (noted_as table.patterns (table.large ++ added ∷ []) table.unread)
  stays_large Nothing says = rw (in_others table.large added pattern differs) says
  stays_large (Held number) says = rw (in_others table.large added pattern differs) says
  stays_large Large says = rw (in_others table.large added pattern differs) says
  stays_large Unread says = rw (in_others table.large added pattern differs) says

  pub stays_unread : (was : Note) → Says was pattern table → Says was pattern (noted_as table.patterns table.large (table.unread ++ added ∷ []))
  stays_unread Nothing says = rw (in_others table.unread added pattern differs) says
  stays_unread (Held number) says = rw (in_others table.unread added pattern differs) says
  stays_unread Large says = rw (in_others table.unread added pattern differs) says
  stays_unread Unread says = rw (in_others table.unread added pattern differs) says

-- the index behind a change, where the table gets a pattern that wasn't noted
module _ (before between after : Notes) (table : Noted) (added : Written) (patterns large unread : List Written)
    (new : is_noted added table ≡ false) (same : (pattern : Written) → noted_in between pattern ≡ noted_in before pattern)
    (fits : IsIndexOf before table) where
  pub held_index : (number : ℕ) → ((pattern : Written) → noted_in after pattern ≡ (if is_same added pattern then Held number else noted_in between pattern)) →
      IsTrue (is_read added.body added.flags) → number ≡ length table.patterns →
      patterns ≡ table.patterns ++ added ∷ [] → large ≡ table.large → unread ≡ table.unread → IsIndexOf after (noted_as patterns large unread)
  held_index number changed read count p l u =
      rw (p, l, u) (changed_index between after table _ added (Held number) changed
      (rw count (says_held table added new read)) (λ was pattern differs. stays_held table added pattern differs was) (same_index before between table same fits))

  pub large_index : ((pattern : Written) → noted_in after pattern ≡ (if is_same added pattern then Large else noted_in between pattern)) →
      patterns ≡ table.patterns → large ≡ table.large ++ added ∷ [] → unread ≡ table.unread → IsIndexOf after (noted_as patterns large unread)
  large_index changed p l u =
      rw (p, l, u) (changed_index between after table _ added Large changed
      (says_large table added new) (λ was pattern differs. stays_large table added pattern differs was) (same_index before between table same fits))

  pub unread_index : ((pattern : Written) → noted_in after pattern ≡ (if is_same added pattern then Unread else noted_in between pattern)) →
      patterns ≡ table.patterns → large ≡ table.large → unread ≡ table.unread ++ added ∷ [] → IsIndexOf after (noted_as patterns large unread)
  unread_index changed p l u =
      rw (p, l, u) (changed_index between after table _ added Unread changed
      (says_unread table added new) (λ was pattern differs. stays_unread table added pattern differs was) (same_index before between table same fits))
