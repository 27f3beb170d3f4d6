-- An empty memory is right.
use Rattle.std.proofs.Common.{◌≡◌, Bool, List, [], sym, subst}
use Rattle.remembered.specs.declared.members.Front.{Front}
use Rattle.retest.specs.declared.asking.Asking.{Asking}
use Rattle.retest.specs.Asked.{AreRightFor}

pub none_wrong : (asking : Asking) (members : List (Front × Bool)) → members ≡ [] → AreRightFor asking members
none_wrong asking members empty = subst (AreRightFor asking) (sym empty) (record { right = λ front answer e. absurd (let no : ⊥ = cc in no) })
