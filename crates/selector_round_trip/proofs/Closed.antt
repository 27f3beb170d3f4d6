-- A raw argument that a bracket closes has no bracket of its own open.
use Rattle.std.proofs.Common.{◌≡◌, ℕ, zero, suc, Bool, true, false, eqb, [], ◌∷◌, length, Some, if◌then◌else◌, refl, ap, ◌∙◌, arith, inl, inr}
use Rattle.std.proofs.lemmas.Bool.{cases_Bool, eqb-true, both_ways, and_parts, and_left, ltb-true, lt-ltb}
use Rattle.selector_spelling.specs.declared.open.Open.TheVariants.{Raw}
use Rattle.selector_spelling.specs.Bytes.{Bytes, is_empty}
use Rattle.selector_spelling.specs.Names.{letter_length, escape}
use Rattle.selector_spelling.specs.Scan.{Scan, standing, is_bare, at_least_one, innermost, behind_backslash, inside, step, within, is_closed}
use Rattle.selector_round_trip.proofs.RawScan.{is_skippable, are_skippable, skips, raws, within_raws, Stands, skippable_apart, raw-step}
use Rattle.selector_round_trip.proofs.Marks.{Mark, marks, move, run, depth}

raws_some : (d : ℕ) → is_empty (raws d) ≡ false
raws_some zero = refl
raws_some (suc d) = refl

raws_bare : (d skip : ℕ) → is_bare (within_raws d skip) ≡ false
raws_bare d skip = and_left (is_empty (raws d)) (eqb skip 0) (raws_some d)

-- one byte of an argument, and the rest of it
goes_on : (s next : Scan) (m more : Mark) (b : ℕ) (text : Bytes) → step s b text ≡ next → is_bare next ≡ false → move m b ≡ more → is_closed s (b ∷ text) ≡ true
    → (is_closed next text ≡ true → depth (run more (within next text)) ≡ Some 0) → depth (run m (within s (b ∷ text))) ≡ Some 0
goes_on s next m more b text e other moves closed rest =
    let w : within s (b ∷ text) ≡ b ∷ within next text = ap (λ (t : Scan). if is_bare t then [] else b ∷ within t text) e ∙ ap (λ (c : Bool). if c then [] else b ∷ within next text) other in
    ap (λ (t : Bytes). depth (run m t)) w ∙ ap (λ (x : Mark). depth (run x (within next text))) moves
    ∙ rest (lt-ltb _ _ (let l = ltb-true (length (within s (b ∷ text))) (length (b ∷ text)) closed in omega (arith, l, ap length w)))

-- by the depth at a closing bracket
closes_one : (d b : ℕ) (text : Bytes) → eqb b 92 ≡ false → eqb b 40 ≡ false → eqb b 41 ≡ true → is_closed (within_raws d 0) (b ∷ text) ≡ true
    → ((e : ℕ) → is_closed (within_raws e 0) text ≡ true → depth (run (marks e false) (within (within_raws e 0) text)) ≡ Some 0) → depth (run (marks d false) (within (within_raws d 0) (b ∷ text))) ≡ Some 0
closes_one zero b text plain shut closing closed rest =
    let bare_behind : is_bare (step (within_raws 0 0) b text) ≡ true = ap is_bare (raw-step 0 b text plain) ∙ rw (shut, closing) refl in
    ap (λ (c : Bool). depth (run (marks 0 false) (if c then [] else b ∷ within (step (within_raws 0 0) b text) text))) bare_behind
closes_one (suc d) b text plain shut closing closed rest =
    goes_on (within_raws (suc d) 0) (within_raws d 0) (marks (suc d) false) (marks d false) b text (raw-step (suc d) b text plain ∙ rw (shut, closing) refl) (raws_bare d 0) (rw (shut, closing) refl) closed (rest d)

raw_depth : (text : Bytes) (d skip : ℕ) (paired : Bool) → Stands paired skip text → is_closed (within_raws d skip) text ≡ true → depth (run (marks d paired) (within (within_raws d skip) text)) ≡ Some 0
raw_depth [] d skip paired s closed = absurd (both_ways false refl closed)
raw_depth (b ∷ text) d skip true s closed =
    goes_on (within_raws d skip) (within_raws d s.more) (marks d true) (marks d false) b text (ap (λ (n : ℕ). step (within_raws d n) b text) s.is) (raws_bare d s.more) refl closed (raw_depth text d s.more false s.skippable)
raw_depth (b ∷ text) d (suc skip) false s closed =
    let q = and_parts (is_skippable b) (are_skippable skip text) s in
    let x = skippable_apart b 40 q.0 refl in
    let y = skippable_apart b 41 q.0 refl in
    let z = skippable_apart b 92 q.0 refl in
    goes_on (within_raws d (suc skip)) (within_raws d skip) (marks d false) (marks d false) b text refl (raws_bare d skip) (rw (x, y, z) refl) closed (raw_depth text d skip false q.1)
raw_depth (b ∷ text) d zero false s closed =
    elim (cases_Bool (eqb b 92)) [
      | inl is ↦ (
          let w = skips text in
          let n = at_least_one (letter_length (escape text)) in
          goes_on (within_raws d 0) (within_raws d n) (marks d false) (marks d true) b text
          (ap (λ (c : Bool). if c then behind_backslash (raws d) text else inside (innermost (raws d)) (within_raws d 0) b text) is) (raws_bare d n) (ap (move (marks d false)) (eqb-true b 92 is)) closed
          (raw_depth text d n true (record { more = w.more; is = w.is; skippable = w.skippable })))
      | inr plain ↦ elim (cases_Bool (eqb b 40)) [
        | inl opens ↦ goes_on (within_raws d 0) (within_raws (suc d) 0) (marks d false) (marks (suc d) false) b text (raw-step d b text plain ∙ rw opens refl) (raws_bare (suc d) 0) (rw opens refl) closed (raw_depth text (suc d) 0 false refl)
        | inr shut ↦ elim (cases_Bool (eqb b 41)) [
          | inl closing ↦ closes_one d b text plain shut closing closed (λ e c. raw_depth text e 0 false refl c)
          | inr other ↦ goes_on (within_raws d 0) (within_raws d 0) (marks d false) (marks d false) b text (raw-step d b text plain ∙ rw (shut, other) refl) (raws_bare d 0) (rw (shut, other, plain) refl) closed (raw_depth text d 0 false refl)
        ]
      ]
    ]

pub raw_argument : (text : Bytes) → is_closed (standing (Raw ∷ [])) text ≡ true → depth (run (marks 0 false) (within (standing (Raw ∷ [])) text)) ≡ Some 0
raw_argument text closed = raw_depth text 0 0 false refl closed
