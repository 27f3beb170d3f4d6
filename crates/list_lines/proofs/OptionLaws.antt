-- Options, one after the other.
use Rattle.std.proofs.Common.{◌≡◌, ℕ, ◌||◌, Bool, true, false, List, [], ◌∷◌, refl, ap, sym, ◌∙◌}
use Rattle.std.specs.List.{list_any}
use Rattle.list_lines.specs.Options.{Besides, silent, hosts, unread, besides, both, option_besides}

or_more : (a b c : Bool) → ((a || b) || c) ≡ (a || (b || c))
or_more true b c = refl
or_more false b c = refl

pub any_option : (test : ℕ × List ℕ → Bool) (before after : Bool) (o : ℕ × List ℕ) (left more : List (ℕ × List ℕ)) (total : Bool) → left ≡ o ∷ more → after ≡ (before || test o)
    → (before || list_any test left) ≡ total → (after || list_any test more) ≡ total
any_option test before after o left more total e a h =
    ap (λ (v : Bool). v || list_any test more) a ∙ or_more before (test o) (list_any test more)
    ∙ ap (λ (l : List (ℕ × List ℕ)). before || list_any test l) (sym e) ∙ h

both_more : (a b c : Besides) → both (both a b) c ≡ both a (both b c)
both_more silent b c = refl
both_more (hosts at text) silent c = refl
both_more (hosts at text) (hosts at' text') silent = refl
both_more (hosts at text) (hosts at' text') (hosts at'' text'') = refl
both_more (hosts at text) (hosts at' text') unread = refl
both_more (hosts at text) unread c = refl
both_more unread b c = refl

pub next_option : (before after : Besides) (o : ℕ × List ℕ) (left more : List (ℕ × List ℕ)) (total : Besides) → left ≡ o ∷ more → after ≡ both before (option_besides o.0 o.1)
    → both before (besides left) ≡ total → both after (besides more) ≡ total
next_option before after o left more total e a h =
    ap (λ (v : Besides). both v (besides more)) a ∙ both_more before (option_besides o.0 o.1) (besides more)
    ∙ ap (λ (l : List (ℕ × List ℕ)). both before (besides l)) (sym e) ∙ h

both_silent : (a : Besides) → both a silent ≡ a
both_silent silent = refl
both_silent (hosts at text) = refl
both_silent unread = refl

pub last_option : (before : Besides) (left : List (ℕ × List ℕ)) (total : Besides) → left ≡ [] → both before (besides left) ≡ total → before ≡ total
last_option before left total e h = sym (both_silent before) ∙ ap (λ (l : List (ℕ × List ℕ)). both before (besides l)) (sym e) ∙ h

or_none : (a : Bool) → (a || false) ≡ a
or_none true = refl
or_none false = refl

pub no_option : (test : ℕ × List ℕ → Bool) (before : Bool) (left : List (ℕ × List ℕ)) (total : Bool) → left ≡ [] → (before || list_any test left) ≡ total → before ≡ total
no_option test before left total e h = sym (or_none before) ∙ ap (λ (l : List (ℕ × List ℕ)). before || list_any test l) (sym e) ∙ h
