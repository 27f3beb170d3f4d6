-- The limits that nodes pass, node by node.
use Rattle.std.proofs.Common.{◌≡◌, ℕ, suc, ◌+◌, ◌<◌, ◌≤◌, Bool, true, false, cond, List, [], ◌∷◌, ◌++◌, length, refl, arith, ap, ◌∙◌, nat_lt, nat_le, Option, Some, None, ◌⊎◌, inl, inr, subst, Result, Ok, Err, MatchOption, IsOkUnless}
use Rattle.std.specs.Prelude.{IsErrAnd}
use Rattle.std.proofs.lemmas.Bool.{leb-false}
use Rattle.page_tree.specs.Forest.{Content}
use Rattle.page_tree.specs.Fragments.{Limit, TooDeep, TooManyNodes, limit_passed}
use Rattle.page_tree.specs.declared.TheConstants.{NODE_LIMIT, DEPTH_LIMIT}
use Rattle.html_tree.specs.declared.reader.PageError.{PageError}
use Rattle.html_tree.specs.Limits.{next_limit, page_error, FailsWith}
use Rattle.html_tree.specs.declared.reader.PageError.TheVariants.{NoMemory}

abbrev choice : Bool → Bool → Option Limit → Option Limit
choice deep many rest = cond deep (Some TooDeep) (cond many (Some TooManyNodes) rest)

choice-none : (deep many : Bool) (rest : Option Limit) → choice deep many None ≡ None → choice deep many rest ≡ rest
choice-none true many rest e = cc
choice-none false true rest e = cc
choice-none false false rest e = refl

choice-some : (deep many : Bool) (rest : Option Limit) (l : Limit) → choice deep many None ≡ Some l → choice deep many rest ≡ Some l
choice-some true many rest l e = e
choice-some false true rest l e = e
choice-some false false rest l e = cc

choice-left : (deep many : Bool) (rest : Option Limit) → choice deep many rest ≡ None → (choice deep many None ≡ None) × (rest ≡ None)
choice-left true many rest e = cc
choice-left false true rest e = cc
choice-left false false rest e = (refl, e)

choice-few : (deep many : Bool) → choice deep many None ≡ None → many ≡ false
choice-few true many e = cc
choice-few false true e = cc
choice-few false false e = refl

-- a node that passes none, and one that passes one
pub first_within : (depth live within : ℕ) (c : Content) (rest : List (ℕ × Content)) → next_limit depth live within ≡ None
    → limit_passed depth live ((within, c) ∷ rest) ≡ limit_passed depth (suc live) rest
first_within depth live within c rest e = choice-none (nat_lt DEPTH_LIMIT (depth + suc within)) (nat_le NODE_LIMIT live) (limit_passed depth (suc live) rest) e

pub first_passes : (depth live within : ℕ) (c : Content) (rest : List (ℕ × Content)) (l : Limit) → next_limit depth live within ≡ Some l
    → limit_passed depth live ((within, c) ∷ rest) ≡ Some l
first_passes depth live within c rest l e = choice-some (nat_lt DEPTH_LIMIT (depth + suc within)) (nat_le NODE_LIMIT live) (limit_passed depth (suc live) rest) l e

-- nodes behind some that pass none
pub passed_behind : (depth live : ℕ) (out rest : List (ℕ × Content)) → limit_passed depth live out ≡ None → limit_passed depth live (out ++ rest) ≡ limit_passed depth (live + length out) rest
passed_behind depth live [] rest e = ap (λ n. limit_passed depth n rest) (let z : live ≡ live + 0 = omega arith in z)
passed_behind depth live (n ∷ out) rest e =
    let parts = choice-left (nat_lt DEPTH_LIMIT (depth + suc n.0)) (nat_le NODE_LIMIT live) (limit_passed depth (suc live) out) e in
    choice-none (nat_lt DEPTH_LIMIT (depth + suc n.0)) (nat_le NODE_LIMIT live) (limit_passed depth (suc live) (out ++ rest)) parts.0
    ∙ passed_behind depth (suc live) out rest parts.1
    ∙ ap (λ n. limit_passed depth n rest) (let z : suc live + length out ≡ live + suc (length out) = omega arith in z)

pub pushed_within : (depth live within : ℕ) (c : Content) (out : List (ℕ × Content)) → limit_passed depth live out ≡ None → next_limit depth (live + length out) within ≡ None
    → limit_passed depth live (out ++ (within, c) ∷ []) ≡ None
pushed_within depth live within c out e n = passed_behind depth live out ((within, c) ∷ []) e ∙ first_within depth (live + length out) within c [] n

pub pushed_passes : (depth live within : ℕ) (c : Content) (out rest all : List (ℕ × Content)) (l : Limit) → limit_passed depth live out ≡ None → next_limit depth (live + length out) within ≡ Some l
    → all ≡ out ++ (within, c) ∷ rest → limit_passed depth live all ≡ Some l
pushed_passes depth live within c out rest all l e n a =
    ap (limit_passed depth live) a ∙ passed_behind depth live out ((within, c) ∷ rest) e ∙ first_passes depth (live + length out) within c rest l n

-- what the test of a node answers
pub depth_is : (o : Option Limit) (r : Result ℕ PageError) (within depth : ℕ) → MatchOption o (r ≡ Ok within) (λ limit. r ≡ Err (page_error limit)) → r ≡ Ok depth → (o ≡ None) × (depth ≡ within)
depth_is None r within depth m e = (refl, cc)
depth_is (Some l) r within depth m e = cc

pub error_is : (o : Option Limit) (r : Result ℕ PageError) (within : ℕ) (e : PageError) → MatchOption o (r ≡ Ok within) (λ limit. r ≡ Err (page_error limit)) → r ≡ Err e
    → (l : Limit) × (o ≡ Some l) × (e ≡ page_error l)
error_is None r within e m s = cc
error_is (Some l) r within e m s = (l, refl, cc)

-- what pushing a node answers
pub push_done : (o : Option Limit) (r : Result (Unit {0}) PageError) (u : Unit {0}) → MatchOption o (IsOkUnless r NoMemory) (λ limit. r ≡ Err (page_error limit)) → r ≡ Ok u → o ≡ None
push_done None r u m e = refl
push_done (Some l) r u m e = cc

pub push_failed : (o : Option Limit) (r : Result (Unit {0}) PageError) (e : PageError) → MatchOption o (IsOkUnless r NoMemory) (λ limit. r ≡ Err (page_error limit)) → r ≡ Err e
    → (e ≡ NoMemory) ⊎ ((l : Limit) × (o ≡ Some l) × (e ≡ page_error l))
push_failed None r e m s = inl (subst (λ x. IsOkUnless x NoMemory) s m)
push_failed (Some l) r e m s = inr (l, refl, cc)

-- how a reading ends that fails with this error
pub fails : (X : Type 0) (limit : Option Limit) (e : PageError) → (e ≡ NoMemory) ⊎ ((l : Limit) × (limit ≡ Some l) × (e ≡ page_error l))
    → MatchOption limit (IsOkUnless {T = X} (Err e) NoMemory) (λ l. FailsWith {X = X} (Err e) (page_error l))
fails X None e (inl m) = m
fails X None e (inr (l, s, p)) = cc
fails X (Some l) e (inl m) = inr m
fails X (Some l) e (inr (k, s, p)) = inl (p ∙ ap page_error (let same : k ≡ l = cc in same))

pub error_given : (X : Type 0) (r : Result X PageError) (e : PageError) → IsErrAnd r (λ f. f ≡ e) → r ≡ Err e
error_given X (Ok x) e h = absurd h
error_given X (Err f) e h = ap Err h

pub failed_so : (limit o : Option Limit) (e : PageError) → ((l : Limit) → o ≡ Some l → limit ≡ Some l) → (e ≡ NoMemory) ⊎ ((l : Limit) × (o ≡ Some l) × (e ≡ page_error l))
    → (e ≡ NoMemory) ⊎ ((l : Limit) × (limit ≡ Some l) × (e ≡ page_error l))
failed_so limit o e k (inl m) = inl m
failed_so limit o e k (inr (l, s, p)) = inr (l, k l s, p)

-- nodes that pass no limit are few
pub few_nodes : (depth live : ℕ) (part : List (ℕ × Content)) → limit_passed depth live part ≡ None → live ≤ NODE_LIMIT → live + length part ≤ NODE_LIMIT
few_nodes depth live [] e h = omega (arith, h)
few_nodes depth live (n ∷ part) e h =
    let deep = nat_lt DEPTH_LIMIT (depth + suc n.0) in
    let parts = choice-left deep (nat_le NODE_LIMIT live) (limit_passed depth (suc live) part) e in
    let more : live < NODE_LIMIT = leb-false NODE_LIMIT live (choice-few deep (nat_le NODE_LIMIT live) parts.0) in
    omega (arith, few_nodes depth (suc live) part parts.1 (omega (arith, more)))

pub no_limit : {X : Type 0} (limit : Option Limit) (r : Result X PageError) (x : X) → MatchOption limit (IsOkUnless r NoMemory) (λ l. FailsWith r (page_error l)) → r ≡ Ok x → limit ≡ None
no_limit None r x m e = refl
no_limit (Some l) r x m e = absurd (subst (λ s. FailsWith s (page_error l)) e m)
