-- How a text is written in parts.
use Rattle.std.proofs.Common.{◌≡◌, ◌+◌, List, [], ◌++◌, length, arith, refl}
use Rattle.std.proofs.lemmas.Grind.{common_steps}
use Rattle.std.proofs.Math.Seq.{take-append-add, take-append_seam}
use Rattle.std.proofs.lemmas.List.{take-append-le}
use Rattle.cos_outside.specs.Runs.{AppendsPrefix, HasLeft}

-- before the first part
pub all_is_left : {A : Type 0} (old text : List A) → HasLeft old old text text
all_is_left old text = record { done = []; appended = grind (arith, common_steps); whole = refl }

-- a part was written whole
pub goes_on : {A : Type 0} (old new next text part left : List A) →
    HasLeft old new text (part ++ left) → next ≡ new ++ part → HasLeft old next text left
goes_on old new next text part left so_far e = record {
  done = so_far.done ++ part;
  appended = grind (arith, common_steps, so_far.appended);
  whole = grind (arith, common_steps, so_far.whole);
}

-- a prefix of a part was written
pub ends_within : {A : Type 0} (old new next text part left : List A) →
    HasLeft old new text (part ++ left) → AppendsPrefix new next part → AppendsPrefix old next text
ends_within old new next text part left so_far more =
    let deep = take-append-add so_far.done (part ++ left) more.count in
    let near = take-append-le more.count part left more.within in
    record {
      count = length so_far.done + more.count;
      within = grind (arith, common_steps, so_far.whole, more.within);
      front = grind (arith, common_steps, so_far.appended, so_far.whole, more.front, deep, near);
    }

-- nothing of the rest was written
pub stops : {A : Type 0} (old new text left : List A) → HasLeft old new text left → AppendsPrefix old new text
stops old new text left so_far = record {
  count = length so_far.done;
  within = grind (arith, common_steps, so_far.whole);
  front = grind (arith, common_steps, so_far.appended, so_far.whole, take-append_seam so_far.done left);
}

-- all parts were written
pub is_whole : {A : Type 0} (old new text : List A) → HasLeft old new text [] → new ≡ old ++ text
is_whole old new text so_far = grind (arith, common_steps, so_far.appended, so_far.whole)

-- two parts, one after the other: of the first
pub front_of_first : {A : Type 0} (old new part left : List A) →
    AppendsPrefix old new part → AppendsPrefix old new (part ++ left)
front_of_first old new part left first = record {
  count = first.count;
  within = grind (arith, common_steps, first.within);
  front = cc (take-append-le first.count part left first.within, first.front);
}

-- and of the second
pub front_of_second : {A : Type 0} (old new next part left : List A) →
    new ≡ old ++ part → AppendsPrefix new next left → AppendsPrefix old next (part ++ left)
front_of_second old new next part left e second = record {
  count = length part + second.count;
  within = grind (arith, common_steps, second.within);
  front = grind (arith, common_steps, e, second.front, take-append-add part left second.count);
}

-- the whole is a front of itself
pub whole_is_front : {A : Type 0} (old new items : List A) → new ≡ old ++ items → AppendsPrefix old new items
whole_is_front old new items e = record {
  count = length items;
  within = omega arith;
  front = grind (arith, common_steps, e);
}
