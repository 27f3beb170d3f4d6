use Rattle.std.proofs.Common.{◌≡◌, ℕ, suc, ◌-◌, Bool, true, false, List, refl, ap, sym, ◌∙◌, drop, length, arith}
use Rattle.std.proofs.lemmas.Bool.{false_from_ne_true, false≢true}
use Rattle.std.proofs.lemmas.List.{length-map}
use Rattle.std.proofs.lemmas.Slice.Eq.{bytes_eq-Decides}
use Rattle.std.specs.List.{list_any}
use Rattle.std.specs.Str.{bytes_eq, str_to_ascii_lowercase}
use Rattle.html_tree.specs.Chain.{names_of}
use Rattle.html_tree.proofs.Closing.{none_more}
use Rattle.html_tree.proofs.Names.{end_leaves_names, end_leaves_all_named}
use Rattle.html_tree.proofs.chain.left_by_end.Goals as goal

pub returns-then-eq_ignore_ascii_case-clause-left : goal.returns-then-eq_ignore_ascii_case-clause-left
returns-then-eq_ignore_ascii_case-clause-left c =
    let name = str_to_ascii_lowercase c.args.tag.now in
    let t : List ℕ → Bool = λ n. bytes_eq n name in
    let names = names_of c.args.chain.now in
    let last : suc (c.loop-left.left - 1) ≡ c.loop-left.left = omega arith in
    let others : list_any t (drop (suc (c.loop-left.left - 1)) names) ≡ false = ap (λ n. list_any t (drop n names)) last ∙ c.loop-left.invariant.others in
    let named : t (str_to_ascii_lowercase c.name_at.result.now) ≡ true = (bytes_eq-Decides (str_to_ascii_lowercase c.name_at.result.now) name).1 (sym (c.if-eq_ignore_ascii_case.ensures.test.0 refl)) in
    end_leaves_names name names (c.loop-left.left - 1) _ c.name_at.ensures named others

pub loop-left-preserved : goal.loop-left-preserved
loop-left-preserved c =
    let name = str_to_ascii_lowercase c.args.tag.now in
    let t : List ℕ → Bool = λ n. bytes_eq n name in
    let names = names_of c.args.chain.now in
    let other : t (str_to_ascii_lowercase c.name_at.result.now) ≡ false =
    false_from_ne_true _ (λ e. false≢true (c.if-eq_ignore_ascii_case.ensures.test.1 (sym ((bytes_eq-Decides (str_to_ascii_lowercase c.name_at.result.now) name).0 e)))) in
    let last : suc (c.loop-left.left - 1) ≡ c.loop-left.left = omega arith in
    let behind : list_any t (drop (suc (c.loop-left.left - 1)) names) ≡ false = ap (λ n. list_any t (drop n names)) last ∙ c.loop-left.invariant.others in
    record { within = omega arith; others = none_more t names (c.loop-left.left - 1) _ c.name_at.ensures other behind }

pub returns-clause-left : goal.returns-clause-left
returns-clause-left c =
    let name = str_to_ascii_lowercase c.args.tag.now in
    let t : List ℕ → Bool = λ n. bytes_eq n name in
    let names = names_of c.args.chain.now in
    let none : c.loop-left.left ≡ 0 = omega arith in
    let long : length c.args.chain.now ≡ length names = sym (length-map c.args.chain.now _) in
    end_leaves_all_named name names (length c.args.chain.now) long (ap (λ n. list_any t (drop n names)) (sym none) ∙ c.loop-left.invariant.others)
