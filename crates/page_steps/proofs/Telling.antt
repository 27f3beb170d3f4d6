-- What is known of the hidden elements of a page, behind a line.
use Rattle.std.proofs.Common.{◌≡◌, ◌∙◌, ℕ, Bool, true, false, cond, List, length, refl, sym, ap}
use Rattle.engine_meaning.specs.States.{State}
use Rattle.hide_engine.specs.Chosen.{HidesSame}
use Rattle.page_steps.specs.declared.known.Known.{Known}
use Rattle.page_steps.specs.declared.known.Known.TheVariants.{Nothing, Count, Rows}
use Rattle.page_steps.specs.Known.{Knows}

-- what is known of a page is true of another one that hides the same
knows_alike : (known : Known) (s behind : State) → HidesSame s behind → Knows known s → Knows known behind
knows_alike Nothing s behind same knows = tt
knows_alike (Count count) s behind same knows = knows ∙ ap (λ (rows : List (ℕ × List ℕ)). length rows) (sym same)
knows_alike (Rows rows) s behind same knows = knows ∙ sym same

-- nothing is known of one that may hide others
pub still_known : (same : Bool) (known : Known) (s behind : State) → (same ≡ true → HidesSame s behind) → Knows known s → Knows (cond same known Nothing) behind
still_known true known s behind same knows = knows_alike known s behind (same refl) knows
still_known false known s behind same knows = tt
