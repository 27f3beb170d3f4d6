use Rattle.std.proofs.Common.{◌≡◌, ℕ, suc, List, ◌∷◌, drop, sym, ◌∙◌, ap, subst, arith, add-one, drop-cons}
use Rattle.std.specs.Str.{str_to_ascii_lowercase}
use Rattle.page_tree.specs.Trees.{AreAttributes}
use Rattle.dom_arena.specs.Attributes.{place_of}
use Rattle.dom_arena.proofs.Attributes.{place_of-here, place_of-further}
use Rattle.dom_arena.proofs.attrs.find_attr.Goals as goal

pub returns-then-eq_ignore_ascii_case : goal.returns-then-eq_ignore_ascii_case
returns-then-eq_ignore_ascii_case c =
    let i : ℕ = c.loop-attr.attr-index in
    let front : drop i c.args.attrs.now ≡ c.attr-item.result ∷ drop (suc i) c.args.attrs.now =
    drop-cons c.args.attrs.now i c.attr-item.result c.loop-attr-test.true ∙ ap (λ (a : List ℕ × List ℕ). a ∷ drop (suc i) c.args.attrs.now) (sym c.attr-item.is) in
    let same : str_to_ascii_lowercase c.attr-item.result.0 ≡ str_to_ascii_lowercase c.args.name.now =
    ap str_to_ascii_lowercase (sym c.as_str.ensures) ∙ c.eq_ignore_ascii_case.ensures.test.0 c.if-eq_ignore_ascii_case.true in
    let here : place_of (str_to_ascii_lowercase c.args.name.now) (drop i c.args.attrs.now) ≡ 0 =
    ap (place_of (str_to_ascii_lowercase c.args.name.now)) front
    ∙ place_of-here c.args.name.now c.attr-item.result (drop (suc i) c.args.attrs.now) (subst AreAttributes front c.loop-attr.invariant.rest) same in
    omega (arith, here, c.loop-attr.invariant.place)

pub loop-attr-preserved : goal.loop-attr-preserved
loop-attr-preserved c =
    let i : ℕ = c.loop-attr.attr-index in
    let front : drop i c.args.attrs.now ≡ c.attr-item.result ∷ drop (suc i) c.args.attrs.now =
    drop-cons c.args.attrs.now i c.attr-item.result c.loop-attr-test.true ∙ ap (λ (a : List ℕ × List ℕ). a ∷ drop (suc i) c.args.attrs.now) (sym c.attr-item.is) in
    let rest : AreAttributes (c.attr-item.result ∷ drop (suc i) c.args.attrs.now) = subst AreAttributes front c.loop-attr.invariant.rest in
    let further : place_of (str_to_ascii_lowercase c.args.name.now) (drop i c.args.attrs.now) ≡ suc (place_of (str_to_ascii_lowercase c.args.name.now) (drop (suc i) c.args.attrs.now)) =
    ap (place_of (str_to_ascii_lowercase c.args.name.now)) front
    ∙ place_of-further c.args.name.now c.attr-item.result (drop (suc i) c.args.attrs.now) rest
    (λ e. let yes = c.eq_ignore_ascii_case.ensures.test.1 (ap str_to_ascii_lowercase c.as_str.ensures ∙ e) in let no = c.if-eq_ignore_ascii_case.false in cc) in
    rw add-one
    (record {
      rest = rest.2;
      counted = omega (arith, c.loop-attr.invariant.counted);
      place = omega (arith, further, c.loop-attr.invariant.place);
    })
