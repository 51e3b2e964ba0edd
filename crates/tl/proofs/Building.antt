-- A table that is being written: how its nodes are held, and where its open tags are.
use Rattle.std.proofs.Common.{◌≡◌, ℕ, ◌<◌, Bool, true, false, cond, List, [], ◌∷◌, ◌++◌, length, get_or, set, reverse, Some, sym, subst, ◌∙◌}
use Rattle.std.specs.Prelude.{All, slice_get, ◌-◌}
use Rattle.std.proofs.lemmas.List.Elements.{All-set, All-push, All-pop}
use Rattle.std.proofs.lemmas.Option.{get_or_from_slice_get, slice_get_within}
use Rattle.tl_bytes.specs.Held.{Held}
use Rattle.tl_spec.proofs.Tree.Writes.{slice_get-last}
use Rattle.tl.specs.View.{HTMLNode, IsHeldNode}

-- a node that was written keeps how its pieces are held
pub held_written : (held : Held) (xs : List HTMLNode) (p : ℕ) (x y : HTMLNode) → p < length xs → x ≡ get_or xs p x → (IsHeldNode held x → IsHeldNode held y) → All (IsHeldNode held) xs → All (IsHeldNode held) (set xs p y)
held_written held xs p x y l e kept all = All-set (IsHeldNode held) xs p y (kept (subst (IsHeldNode held) (sym e) (all p x l))) all

-- a node more, held alike
pub held_more : (held : Held) (xs ys : List HTMLNode) (x : HTMLNode) → ys ≡ xs ++ x ∷ [] → All (IsHeldNode held) xs → IsHeldNode held x → All (IsHeldNode held) ys
held_more held xs ys x e all h = subst (All (IsHeldNode held)) (sym e) (All-push (IsHeldNode held) xs x all h)

-- the innermost open tag is a node
pub innermost_within : (n : ℕ) (tags : List ℕ) (p : ℕ) → All (λ p. p < n) tags → Some p ≡ slice_get (reverse tags) 0 → p < n
innermost_within n tags p all e =
    let last : slice_get tags (length tags - 1) ≡ Some p = slice_get-last tags ∙ sym e in
    let place = slice_get_within tags (length tags - 1) p last in
    subst (λ p. p < n) (get_or_from_slice_get tags (length tags - 1) p 0 last) (all (length tags - 1) 0 place)

-- and so is the last one, where others stand before it
pub last_within : (n : ℕ) (tags others : List ℕ) (p : ℕ) → All (λ p. p < n) tags → tags ≡ others ++ p ∷ [] → p < n
last_within n tags others p all e = (All-pop (λ p. p < n) tags others (Some p) e all).1

-- a node may be opened after them, or be refused
pub opened_within : (n p : ℕ) (tags more : List ℕ) (b : Bool) → more ≡ cond b (tags ++ p ∷ []) tags → p < n → All (λ p. p < n) tags → All (λ p. p < n) more
opened_within n p tags more true e h all = subst (All (λ p. p < n)) (sym e) (All-push (λ p. p < n) tags p all h)
opened_within n p tags more false e h all = subst (All (λ p. p < n)) (sym e) all

-- tags stay open while the table keeps its length
pub still_open : (m n : ℕ) (tags : List ℕ) → n ≡ m → All (λ p. p < m) tags → All (λ p. p < n) tags
still_open m n tags e all = subst (λ n. All (λ p. p < n) tags) (sym e) all

-- the others stay open when the last one closes
pub others_open : (xs ys : List HTMLNode) (tags others : List ℕ) (p : ℕ) → length ys ≡ length xs → All (λ p. p < length xs) tags → tags ≡ others ++ p ∷ [] → All (λ p. p < length ys) others
others_open xs ys tags others p len all e = still_open (length xs) (length ys) others len (All-pop (λ p. p < length xs) tags others (Some p) e all).0
