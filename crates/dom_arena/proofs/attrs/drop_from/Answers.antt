use Rattle.std.proofs.Common.{◌≡◌, ◌≤◌, ◌<◌, length, sym, ◌∙◌, ap, arith}
use Rattle.std.specs.Prelude.{remove}
use Rattle.std.specs.Str.{str_to_ascii_lowercase}
use Rattle.dom_arena.specs.Attributes.{place_of}
use Rattle.dom_arena.proofs.Attributes.{without_attr-found, without_attr-none}
use Rattle.dom_arena.proofs.attrs.drop_from.Goals as goal

pub returns-then-place-len : goal.returns-then-place-len
returns-then-place-len c =
    let name = str_to_ascii_lowercase c.args.name.now in
    let place : c.find_attr-place.result ≡ place_of name c.args.attrs.now = c.find_attr-place.ensures ∙ ap (place_of name) c.as_slice.ensures in
    let inside : place_of name c.args.attrs.now < length c.args.attrs.now = omega (arith, place, c.len.ensures, c.if-place-len.true) in
    c.remove.ensures ∙ ap (remove c.args.attrs.now) place ∙ sym (without_attr-found name c.args.attrs.now inside)

pub returns-else-place-len : goal.returns-else-place-len
returns-else-place-len c =
    let name = str_to_ascii_lowercase c.args.name.now in
    let place : c.find_attr-place.result ≡ place_of name c.args.attrs.now = c.find_attr-place.ensures ∙ ap (place_of name) c.as_slice.ensures in
    let outside : length c.args.attrs.now ≤ place_of name c.args.attrs.now = omega (arith, place, c.len.ensures, c.if-place-len.false) in
    sym (without_attr-none name c.args.attrs.now outside)
