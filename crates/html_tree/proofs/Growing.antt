-- The tree of a page while its nodes are put in: where the next node goes, and when it is refused.
use Rattle.std.proofs.Common.{◌≡◌, ℕ, zero, suc, ◌+◌, ◌-◌, ◌≤◌, Bool, true, false, List, [], ◌∷◌, ◌++◌, length, take, refl, arith, ap, sym, ◌∙◌, subst, map, Option, Some, None, option_map, nat_lt, nat_le, zero-add}
use Rattle.std.proofs.lemmas.List.{length-map}
use Rattle.std.proofs.lemmas.Bool.{eq-eqb, le-ltb}
use Rattle.std.specs.Prelude.{◌==◌, slice_index, if◌then◌else◌}
use Rattle.std.specs.Option.{option_or}
use Rattle.page_tree.specs.Forest.{Content, document, element, text, comment, Forest, empty, node, Tree, rooted, count, size, tops, find, children, depth_in, or_some}
use Rattle.page_tree.specs.Edits.{joined, children_of}
use Rattle.page_tree.specs.Fragments.{TooDeep, TooManyNodes, hung}
use Rattle.page_tree.specs.declared.TheConstants.{NODE_LIMIT, DEPTH_LIMIT}
use Rattle.page_tree.specs.Refusals.{Refusal, past_limit, parent_among, place_past, place_refused, limits_refused, graft_refused}
use Rattle.html_meaning.specs.Page.{OpenElement, innermost}
use Rattle.html_tree.specs.Limits.{next_limit}
use Rattle.html_tree.proofs.Spine.{OnSpine, the_document, same-other, find-none, or_else_empty, spine_counts}

-- a node of this content may have children
abbrev pub may_hold : Content → Bool
may_hold document = true
may_hold (element name attrs) = true
may_hold (text bytes) = false
may_hold (comment bytes) = false

-- each node on the way along the last ones, as far as the elements go, may have children
abbrev pub AllHold : List OpenElement → Forest → Type 0
AllHold [] f = Unit {0}
AllHold (o ∷ elements) empty = ⊥
AllHold (o ∷ elements) (node n c kids empty) = (may_hold c ≡ true) × AllHold elements kids
AllHold (o ∷ elements) (node n c kids (node m d inner later)) = AllHold (o ∷ elements) (node m d inner later)

pub hold-front : (n : ℕ) (elements : List OpenElement) (f : Forest) → AllHold elements f → AllHold (take n elements) f
hold-front zero elements f s = tt
hold-front (suc n) [] f s = tt
hold-front (suc n) (o ∷ elements) empty s = absurd s
hold-front (suc n) (o ∷ elements) (node m c kids empty) s = (s.0, hold-front n elements kids s.1)
hold-front (suc n) (o ∷ elements) (node m c kids (node l d inner later)) s = hold-front (suc n) (o ∷ elements) (node l d inner later) s

hold-under : (p : OpenElement) (elements : List OpenElement) (n : ℕ) (c : Content) (kids later : Forest) → AllHold (p ∷ elements) later → AllHold (p ∷ elements) (node n c kids later)
hold-under p elements n c kids empty s = absurd s
hold-under p elements n c kids (node m e inner later) s = s

hold-joined : (o : OpenElement) (m : ℕ) (c : Content) (f : Forest) → may_hold c ≡ true → AllHold (o ∷ []) (joined f (node m c empty empty))
hold-joined o m c empty h = (h, tt)
hold-joined o m c (node n d kids empty) h = (h, tt)
hold-joined o m c (node n d kids (node l e inner later)) h = hold-joined o m c (node l e inner later) h

-- a node that is put behind the last ones, and becomes one of the elements or not
pub hold-hung : (elements : List OpenElement) (o : OpenElement) (m : ℕ) (c : Content) (f : Forest) → may_hold c ≡ true → AllHold elements f
    → AllHold (elements ++ o ∷ []) (hung (length elements) (node m c empty empty) f)
hold-hung [] o m c f h s = hold-joined o m c f h
hold-hung (p ∷ elements) o m c empty h s = absurd s
hold-hung (p ∷ elements) o m c (node n d kids empty) h s = (s.0, hold-hung elements o m c kids h s.1)
hold-hung (p ∷ elements) o m c (node n d kids (node l e inner later)) h s =
    hold-under p (elements ++ o ∷ []) n d kids (hung (suc (length elements)) (node m c empty empty) (node l e inner later)) (hold-hung (p ∷ elements) o m c (node l e inner later) h s)

pub hold-leaf : (elements : List OpenElement) (new f : Forest) → AllHold elements f → AllHold elements (hung (length elements) new f)
hold-leaf [] new f s = tt
hold-leaf (p ∷ elements) new empty s = absurd s
hold-leaf (p ∷ elements) new (node n d kids empty) s = (s.0, hold-leaf elements new kids s.1)
hold-leaf (p ∷ elements) new (node n d kids (node l e inner later)) s =
    hold-under p elements n d kids (hung (suc (length elements)) new (node l e inner later)) (hold-leaf (p ∷ elements) new (node l e inner later) s)

-- a place among the children of what was found is refused only where it is past them
abbrev Accepts : ℕ → Forest → Type 0
Accepts p f = option_or (parent_among p f) (place_past (length (tops (children f))) (length (tops (children f)))) ≡ None

not_past : (n : ℕ) → place_past n n ≡ None
not_past n = let h : n ≤ n = omega arith in rw (le-ltb n n h) refl

holds_accepts : (p n : ℕ) (c : Content) (kids later : Forest) → may_hold c ≡ true → Accepts p (node n c kids later)
holds_accepts p n document kids later h = not_past (length (tops kids))
holds_accepts p n (element name attrs) kids later h = not_past (length (tops kids))
holds_accepts p n (text bytes) kids later h = cc
holds_accepts p n (comment bytes) kids later h = cc

find_here : (k n : ℕ) (c : Content) (kids : Forest) → (k == n) ≡ true → find k (node n c kids empty) ≡ node n c kids empty
find_here k n c kids e = rw e refl

find_down : (k n : ℕ) (c : Content) (kids : Forest) → (k == n) ≡ false → find k (node n c kids empty) ≡ find k kids
find_down k n c kids e = rw e (or_else_empty (find k kids))

find_along : (k n : ℕ) (c : Content) (kids later : Forest) → (k == n) ≡ false → count k kids ≡ 0 → find k (node n c kids later) ≡ find k later
find_along k n c kids later e none = rw (e, find-none k kids none) refl

pub last_accepts : (p up : ℕ) (o : OpenElement) (elements : List OpenElement) (f : Forest) → OnSpine (o ∷ elements) f → AllHold (o ∷ elements) f
    → count (innermost up (o ∷ elements)) f ≤ 1 → Accepts p (find (innermost up (o ∷ elements)) f)
last_accepts p up o elements empty s a h = absurd s
last_accepts p up o [] (node n c kids empty) s a h =
    subst (Accepts p) (sym (find_here o.number n c kids (eq-eqb o.number n s.0))) (holds_accepts p n c kids empty a.0)
last_accepts p up o (q ∷ elements) (node n c kids empty) s a h =
    let last = innermost o.number (q ∷ elements) in
    let other : (last == n) ≡ false = same-other last n (omega (arith, h, spine_counts o.number q elements kids s.1)) in
    subst (Accepts p) (sym (find_down last n c kids other)) (last_accepts p o.number q elements kids s.1 a.1 (omega (arith, h)))
last_accepts p up o elements (node n c kids (node m d inner later)) s a h =
    let last = innermost up (o ∷ elements) in
    let one = spine_counts up o elements (node m d inner later) s in
    let other : (last == n) ≡ false = same-other last n (omega (arith, h, one)) in
    let none : count last kids ≡ 0 = omega (arith, h, one) in
    subst (Accepts p) (sym (find_along last n c kids (node m d inner later) other none)) (last_accepts p up o elements (node m d inner later) s a (omega (arith, h)))

-- the last of the elements stands as deep as they are many
depth-none : (k d : ℕ) (f : Forest) → count k f ≡ 0 → depth_in k d f ≡ None
depth-none k d empty e = refl
depth-none k d (node n c kids later) e =
    let other : (k == n) ≡ false = same-other k n (omega (arith, e)) in
    let inner : depth_in k (suc d) kids ≡ None = depth-none k (suc d) kids (omega (arith, e)) in
    rw (other, inner) (depth-none k d later (omega (arith, e)))

or_some_none : (o : Option ℕ) → or_some o None ≡ o
or_some_none None = refl
or_some_none (Some d) = refl

depth_here : (k n d : ℕ) (c : Content) (kids : Forest) → (k == n) ≡ true → depth_in k d (node n c kids empty) ≡ Some d
depth_here k n d c kids e = rw e refl

depth_down : (k n d : ℕ) (c : Content) (kids : Forest) → (k == n) ≡ false → depth_in k d (node n c kids empty) ≡ depth_in k (suc d) kids
depth_down k n d c kids e = rw e (or_some_none (depth_in k (suc d) kids))

depth_along : (k n d : ℕ) (c : Content) (kids later : Forest) → (k == n) ≡ false → count k kids ≡ 0 → depth_in k d (node n c kids later) ≡ depth_in k d later
depth_along k n d c kids later e none = rw (e, depth-none k (suc d) kids none) refl

pub last_depth : (d up : ℕ) (o : OpenElement) (elements : List OpenElement) (f : Forest) → OnSpine (o ∷ elements) f
    → count (innermost up (o ∷ elements)) f ≤ 1 → depth_in (innermost up (o ∷ elements)) d f ≡ Some (d + length elements)
last_depth d up o elements empty s h = absurd s
last_depth d up o [] (node n c kids empty) s h =
    let same : d ≡ d + 0 = omega arith in depth_here o.number n d c kids (eq-eqb o.number n s.0) ∙ ap Some same
last_depth d up o (q ∷ elements) (node n c kids empty) s h =
    let last = innermost o.number (q ∷ elements) in
    let other : (last == n) ≡ false = same-other last n (omega (arith, h, spine_counts o.number q elements kids s.1)) in
    let deeper : suc d + length elements ≡ d + suc (length elements) = omega arith in
    depth_down last n d c kids other ∙ last_depth (suc d) o.number q elements kids s.1 (omega (arith, h)) ∙ ap Some deeper
last_depth d up o elements (node n c kids (node m e inner later)) s h =
    let last = innermost up (o ∷ elements) in
    let one = spine_counts up o elements (node m e inner later) s in
    let other : (last == n) ≡ false = same-other last n (omega (arith, h, one)) in
    let none : count last kids ≡ 0 = omega (arith, h, one) in
    depth_along last n d c kids (node m e inner later) other none ∙ last_depth d up o elements (node m e inner later) s (omega (arith, h))

-- the limits of one node are those of the reader
limits_agree : (d n : ℕ) (c : Content) → limits_refused (Some d) n ((0, c) ∷ []) ≡ option_map past_limit (next_limit 0 n d)
limits_agree d n c =
    let same : d + suc 0 ≡ 0 + suc d = omega arith in
    ap (λ (k : ℕ). option_map past_limit (if nat_lt DEPTH_LIMIT k then Some TooDeep else (if nat_le NODE_LIMIT n then Some TooManyNodes else None))) same

-- the innermost element stands as deep as there are elements
pub innermost_depth : (under : List OpenElement) (t : Tree) → OnSpine under t.nodes → ((k : ℕ) → count k (rooted t.nodes) ≤ 1)
    → depth_in (innermost 0 under) 0 (rooted t.nodes) ≡ Some (length under)
innermost_depth under t s once = last_depth 0 0 the_document under (rooted t.nodes) (refl, s) (once (innermost 0 under)) ∙ ap Some (zero-add (length under))

-- a node below the innermost element is refused only by a limit that it passes
pub append_is : (under : List OpenElement) (t : Tree) (c : Content) → OnSpine under t.nodes → AllHold under t.nodes → ((k : ℕ) → count k (rooted t.nodes) ≤ 1)
    → graft_refused (innermost 0 under) (children_of (innermost 0 under) t) ((0, c) ∷ []) t ≡ option_map past_limit (next_limit 0 (size t.nodes) (length under))
append_is under t c s a once =
    let last = innermost 0 under in
    let accepted : place_refused last (children_of last t) t ≡ None = last_accepts last 0 the_document under (rooted t.nodes) (refl, s) (refl, a) (once last) in
    let depth : depth_in last 0 (rooted t.nodes) ≡ Some (length under) = innermost_depth under t s once in
    ap (λ (o : Option Refusal). option_or o (limits_refused (depth_in last 0 (rooted t.nodes)) (size t.nodes) ((0, c) ∷ []))) accepted
    ∙ ap (λ (o : Option ℕ). limits_refused o (size t.nodes) ((0, c) ∷ [])) depth ∙ limits_agree (length under) (size t.nodes) c

-- the number of the innermost element is the last one
pub innermost-last : (up : ℕ) (o : OpenElement) (elements : List OpenElement) → innermost up (o ∷ elements) ≡ slice_index (map (λ (o : OpenElement). o.number) (o ∷ elements)) (length elements)
innermost-last up o [] = refl
innermost-last up o (p ∷ elements) = innermost-last o.number p elements

pub innermost-at : (elements : List OpenElement) (numbers : List ℕ) → numbers ≡ map (λ (o : OpenElement). o.number) elements → innermost 0 elements ≡ slice_index numbers (length numbers - 1)
innermost-at [] numbers e = rw e refl
innermost-at (o ∷ elements) numbers e =
    let long : length elements ≡ length (map (λ (o : OpenElement). o.number) (o ∷ elements)) - 1 = omega (arith, length-map elements (λ (o : OpenElement). o.number)) in
    innermost-last 0 o elements ∙ ap (slice_index (map (λ (o : OpenElement). o.number) (o ∷ elements))) long ∙ ap (λ ns. slice_index ns (length ns - 1)) (sym e)
