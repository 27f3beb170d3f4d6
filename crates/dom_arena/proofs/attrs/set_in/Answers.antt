use Rattle.std.proofs.Common.{◌≡◌, ℕ, ◌≤◌, ◌<◌, List, length, set, sym, ◌∙◌, ap, arith}
use Rattle.std.specs.Str.{str_to_ascii_lowercase}
use Rattle.dom_arena.specs.Attributes.{place_of}
use Rattle.dom_arena.proofs.Attributes.{with_attr-found, with_attr-new}
use Rattle.dom_arena.proofs.attrs.set_in.Goals as goal

pub returns-then-place-len-clause-ok : goal.returns-then-place-len-clause-ok
returns-then-place-len-clause-ok c =
    let place : c.find_attr-place.result ≡ place_of c.args.name c.args.attrs.now =
    c.find_attr-place.ensures ∙ ap (λ (n : List ℕ). place_of (str_to_ascii_lowercase n) c.as_slice.result.now) c.as_str.ensures
    ∙ ap (λ (n : List ℕ). place_of n c.as_slice.result.now) c.requires.name ∙ ap (place_of c.args.name) c.as_slice.ensures in
    let inside : place_of c.args.name c.args.attrs.now < length c.args.attrs.now = omega (arith, place, c.len.ensures, c.if-place-len.true) in
    c.set.ensures ∙ ap (λ (i : ℕ). set c.args.attrs.now i (c.args.name, c.args.value)) place ∙ sym (with_attr-found c.args.name c.args.value c.args.attrs.now inside)

pub returns-else-place-len-clause-ok : goal.returns-else-place-len-clause-ok
returns-else-place-len-clause-ok c =
    let place : c.find_attr-place.result ≡ place_of c.args.name c.args.attrs.now =
    c.find_attr-place.ensures ∙ ap (λ (n : List ℕ). place_of (str_to_ascii_lowercase n) c.as_slice.result.now) c.as_str.ensures
    ∙ ap (λ (n : List ℕ). place_of n c.as_slice.result.now) c.requires.name ∙ ap (place_of c.args.name) c.as_slice.ensures in
    let outside : length c.args.attrs.now ≤ place_of c.args.name c.args.attrs.now = omega (arith, place, c.len.ensures, c.if-place-len.false) in
    rw (with_attr-new c.args.name c.args.value c.args.attrs.now outside) c.push.ensures.ok
