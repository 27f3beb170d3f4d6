use Rattle.std.proofs.Common.{◌≡◌, ◌&&◌, Bool, true, length, drop, ap, sym, ◌∙◌, refl}
use Rattle.std.proofs.lemmas.List.{drop-drop}
use Rattle.html_meaning.specs.Bytes.{begins_like}
use Rattle.html_meaning.specs.Tokens.{ends_name}
use Rattle.html_tokens.proofs.places.ends_raw_text.Goals as goal
use Rattle.html_tokens.proofs.places.ends_raw_text.Goals.{then-begins_like, else-begins_like}

-- where two tests pass, the third decides
third : (a b c : Bool) → a ≡ true → b ≡ true → c ≡ (a && b && c)
third a b c e f = rw (e, f) refl

pub returns-then-inner-name : goal.returns-then-inner-name
returns-then-inner-name c =
    elim c.if-begins_like.branch [
      | then-begins_like w ↦
          c.ends_name.ensures
          ∙ ap ends_name (c.after.ensures ∙ ap (drop (length c.args.name.now)) c.after-inner.ensures ∙ drop-drop (length c.args.name.now) 2 c.args.rest.now)
          ∙ third _ _ _ (sym c.begins.ensures ∙ c.if-begins.true) (sym (c.begins_like.ensures ∙ ap (begins_like c.args.name.now) c.after-inner.ensures) ∙ w.if-begins_like.true)
      | else-begins_like w ↦ cc
    ]
