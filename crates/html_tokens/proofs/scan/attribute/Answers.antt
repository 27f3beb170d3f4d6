use Rattle.std.proofs.Common.{◌≡◌, suc, ◌+◌, ap, sym, ◌∙◌, drop, subst, true, false, arith, rules, eq-eqb, add-one, refl, length, ◌≤◌}
use Rattle.std.proofs.lemmas.Bool.{ne_eqb}
use Rattle.std.specs.Prelude.{◌==◌, slice_index}
use Rattle.html_meaning.specs.Bytes.{up_to}
use Rattle.html_meaning.specs.Tokens.{ends_attribute_name, no_space}
use Rattle.html_tokens.specs.Extents.{IsExtent}
use Rattle.html_tokens.proofs.AttributeExtents.{attribute_valued, attribute_plain}
use Rattle.html_tokens.proofs.Boundaries.{name_boundary, value_boundary, valueless_cuts}
use Rattle.html_tokens.proofs.scan.attribute.Goals as goal

pub returns-then-byte-eq61-clause-extent : goal.returns-then-byte-eq61-clause-extent
returns-then-byte-eq61-clause-extent c =
    let bytes = c.args.bytes.now in
    let named = 1 + c.up_to-name.result in
    let equals = named + c.spaces.result in
    let from = equals + 1 + c.spaces-then-byte-eq61.result in
    let e1 : named ≡ suc (up_to ends_attribute_name (drop 1 bytes)) = omega (arith, c.up_to-name.ensures.value ∙ ap (up_to ends_attribute_name) c.after.ensures) in
    let e2 : equals ≡ named + up_to no_space (drop named bytes) = ap (λ n. named + n) (c.spaces.ensures.value ∙ ap (up_to no_space) c.after-2.ensures) in
    let same : drop (equals + 1) bytes ≡ drop (suc equals) bytes = rw add-one refl in
    let s : c.spaces-then-byte-eq61.result ≡ up_to no_space (drop (suc equals) bytes) =
    c.spaces-then-byte-eq61.ensures.value ∙ ap (up_to no_space) (c.after-then-byte-eq61.ensures ∙ same) in
    let t : (slice_index (drop equals bytes) 0 == 61) ≡ true =
    eq-eqb (slice_index (drop equals bytes) 0) 61 (ap (λ bs. slice_index bs 0) (sym c.after-3.ensures) ∙ sym c.byte.ensures ∙ c.if-byte-eq61.true) in
    let e3 : from ≡ suc equals + up_to no_space (drop (suc equals) bytes) = omega (arith, s) in
    subst (λ a. IsExtent c.value_at.result a bytes) (sym (attribute_valued bytes named equals from e1 e2 e3 t)) c.value_at.ensures.extent

pub returns-else-byte-eq61-clause-extent : goal.returns-else-byte-eq61-clause-extent
returns-else-byte-eq61-clause-extent c =
    let bytes = c.args.bytes.now in
    let named = 1 + c.up_to-name.result in
    let equals = named + c.spaces.result in
    let e1 : named ≡ suc (up_to ends_attribute_name (drop 1 bytes)) = omega (arith, c.up_to-name.ensures.value ∙ ap (up_to ends_attribute_name) c.after.ensures) in
    let e2 : equals ≡ named + up_to no_space (drop named bytes) = ap (λ n. named + n) (c.spaces.ensures.value ∙ ap (up_to no_space) c.after-2.ensures) in
    let t : (slice_index (drop equals bytes) 0 == 61) ≡ false =
    ne_eqb (slice_index (drop equals bytes) 0) 61 (λ e. c.if-byte-eq61.false (c.byte.ensures ∙ ap (λ bs. slice_index bs 0) c.after-3.ensures ∙ e)) in
    rw (attribute_plain bytes named equals e1 e2 t) (search rules)

pub returns-then-byte-eq61-clause-cuts : goal.returns-then-byte-eq61-clause-cuts
returns-then-byte-eq61-clause-cuts c = λ u.
    let bytes = c.args.bytes.now in
    let equals = 1 + c.up_to-name.result + c.spaces.result in
    let s = c.spaces-then-byte-eq61.result in
    let e : slice_index (drop equals bytes) 0 ≡ 61 = ap (λ bs. slice_index bs 0) (sym c.after-3.ensures) ∙ sym c.byte.ensures ∙ c.if-byte-eq61.true in
    c.value_at.ensures.cuts u (name_boundary bytes c.after.result.now c.up_to-name.result c.requires c.after.ensures c.up_to-name.ensures.within c.up_to-name.ensures.ascii)
    (value_boundary bytes equals s u e (c.spaces-then-byte-eq61.ensures.value ∙ ap (up_to no_space) c.after-then-byte-eq61.ensures)
    (subst (λ bs. s ≤ length bs) c.after-then-byte-eq61.ensures c.spaces-then-byte-eq61.ensures.within))

pub returns-else-byte-eq61-clause-cuts : goal.returns-else-byte-eq61-clause-cuts
returns-else-byte-eq61-clause-cuts c = λ u.
    valueless_cuts c.args.bytes.now (1 + c.up_to-name.result) u
    (name_boundary c.args.bytes.now c.after.result.now c.up_to-name.result c.requires c.after.ensures c.up_to-name.ensures.within c.up_to-name.ensures.ascii)
