-- What the bytes of a page give, by whether they are UTF-8; and a page has no more nodes than bytes.
use Rattle.std.proofs.Common.{◌≡◌, ◌+◌, ◌≤◌, ℕ, List, [], ◌∷◌, length, take, true, false, refl, sym, ap, subst, Result, Ok, Err, ⊎_elim, arith}
use Rattle.std.specs.Prelude.{IfOk}
use Rattle.std.proofs.lemmas.Bool.{cases_Bool}
use Rattle.std.proofs.lemmas.List.{length-map, length-drop}
use Rattle.std.proofs.Math.Seq.{take-length}
use Rattle.std.proofs.lemmas.Str.{is_utf8-from_IsUtf8, IsUtf8-from_is_utf8, utf8_valid_len-IsValidUpTo}
use Rattle.std.specs.Str.{is_utf8, IsUtf8, IsValidUpTo}
use Rattle.cos_source.specs.Mark.{mark_length, without_mark}
use Rattle.html_meaning.specs.Page.{PageNode, by_depth, nodes_of, with_nodes, page}
use Rattle.html_meaning.proofs.Counts.{fragment_few}
use Rattle.page_tree.specs.Forest.{Tree, node, empty}
use Rattle.page_tree.specs.Edits.{appended}
use Rattle.command_inputs.specs.declared.status.Status.{Status}
use Rattle.command_inputs.specs.declared.status.Status.TheVariants.{Refused}
use Rattle.command_inputs.specs.declared.status.InputRefusal.TheVariants.{PageNotUtf8}
use Rattle.command_inputs.specs.Inputs.{tree_of_source, tree_of_bytes}

pub of_text : (bytes : List ℕ) → IsUtf8 bytes → tree_of_bytes bytes ≡ tree_of_source (without_mark bytes)
of_text bytes h = rw (is_utf8-from_IsUtf8 bytes h) refl

not_utf8 : (bytes : List ℕ) (n : ℕ) → IsValidUpTo bytes n → is_utf8 bytes ≡ false
not_utf8 bytes n v =
    ⊎_elim (λ e. absurd (v.longest (length bytes) v.short (subst IsUtf8 (sym (take-length bytes)) (IsUtf8-from_is_utf8 bytes e)))) (λ e. e) (cases_Bool (is_utf8 bytes))

pub of_no_text : (bytes : List ℕ) (n : ℕ) → IsValidUpTo bytes n → tree_of_bytes bytes ≡ Err (Refused (PageNotUtf8 n))
of_no_text bytes n v = rw (not_utf8 bytes n v, utf8_valid_len-IsValidUpTo bytes n v) refl

-- each node of a page takes one number
with_nodes_next : (nodes : List PageNode) (t : Tree) → (with_nodes t nodes).next ≡ t.next + length nodes
with_nodes_next [] t = omega arith
with_nodes_next (n ∷ nodes) t = omega (arith, with_nodes_next nodes (appended n.parent (node t.next n.content empty empty) t))

page_few : (source : List ℕ) → (page source).next ≤ length source + 1
page_few source =
    omega (arith, with_nodes_next (nodes_of source) (record { nodes = empty; next = 1 }), length-map (nodes_of source) by_depth, fragment_few source)

unmarked_within : (bytes rest : List ℕ) → rest ≡ without_mark bytes → length rest ≤ length bytes
unmarked_within bytes rest e = rw e (omega (arith, length-drop (mark_length bytes) bytes))

-- the tree of a text, behind its mark
pub text_few : (text source : List ℕ) (t : Tree) → source ≡ without_mark text → t ≡ page source → t.next ≤ length text + 1
text_few text source t e h =
    let next : t.next ≡ (page source).next = ap (λ (u : Tree). u.next) h in
    omega (arith, next, page_few source, unmarked_within text source e)

pub few_within : (read : Result Tree Status) (n most : ℕ) → IfOk read (λ t. t.next ≤ n + 1) → n ≤ most → IfOk read (λ t. t.next ≤ most + 1)
few_within (Ok t) n most h low = omega (arith, h, low)
few_within (Err status) n most h low = tt
