use Rattle.std.proofs.Common.{ℕ, ◌+◌, ◌∙◌, List, ap, drop, drop_of_length-le, subst, sym}
use Rattle.cos_source.specs.Mark.{without_mark}
use Rattle.list_entries.specs.declared.entry.ListRead.{ListRead}
use Rattle.list_files.proofs.Items.{next_of}
use Rattle.list_files.proofs.ListsLeft.{ListsLeft, all_read, one_more}
use Rattle.list_files.proofs.reading.read_lists.Goals as goal

pub files-preserved : goal.files-preserved
files-preserved g c =
    let env = c.args.env.now in
    let files = c.args.files.now in
    let rest = drop (c.files.file-index + 1) files in
    let list = c.in_ok-list.ensures in
    let before = subst (λ (left : List (List ℕ)). ListsLeft env files c.files.table c.files.lists c.files.number left)
    (next_of files c.files.file-index c.file-item.result c.files-test.true c.file-item.is) c.files.invariant.so_far in
    record {
      agrees = list.agrees;
      so_far = subst (λ (lists : List ListRead). ListsLeft env files c.read_list.new.table lists (c.files.number + 1) rest) (sym c.in_ok-push.ensures.ok)
          (one_more env files c.files.table c.files.lists c.files.number c.file-item.result c.without_mark.result.now rest (c.without_mark.ensures ∙ ap without_mark c.as_slice.ensures) before
          c.read_list.new.table c.in_ok-list.list list.extends list.entries list.notices list.proper list.few);
    }

pub returns-clause-lists : goal.returns-clause-lists
returns-clause-lists g c =
    all_read c.args.env.now c.args.files.now c.files.table c.files.lists c.files.number (g.M.Maker.large c.files.maker) (g.M.Maker.unread c.files.maker) c.files.invariant.agrees
    (subst (λ (left : List (List ℕ)). ListsLeft c.args.env.now c.args.files.now c.files.table c.files.lists c.files.number left)
    (drop_of_length-le c.args.files.now c.files-test.false) c.files.invariant.so_far)
