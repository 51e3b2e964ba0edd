-- What follows in one tree as another one says it, piece after piece.
use Rattle.std.proofs.Common.{Bool, List, [], Err, IfOk, Ok, Result, ap, drop, false, map, subst, sym, true, ℕ, ◌+◌, ◌≢◌, ◌++◌, ◌≡◌, ◌↔◌, ◌∙◌, ◌∷◌}
use Rattle.std.proofs.lemmas.List.{append-nil, append_assoc, append_cancel_left}
use Rattle.std.proofs.lemmas.Option.{none-some}
use Rattle.std.specs.Prelude.{slice_get}
use Rattle.tl_tree_edit.specs.Events.{Event, says}
use Rattle.tl_tree_edit.specs.Inner.Walk.{Follows}

-- one piece after another
pub follows_then : (a b c l m n : List Event) (is : Bool) → Follows a b l m true → Follows b c m n is → Follows a c l n is
follows_then a b c l m n true h k = λ rest. (λ e. (k rest).0 ((h rest).0 e), λ e. (h rest).1 ((k rest).1 e))
follows_then a b c l m n false h k = λ rest e. k rest ((h rest).0 e)

-- a piece, and more behind it
pub framed : (a more l m : List Event) (is : Bool) → Follows a [] l m is → Follows (a ++ more) more l m is
framed a more l m true h =
    λ rest. (
      λ e. (h (more ++ rest)).0 (e ∙ append_assoc a more rest),
      λ e. (h (more ++ rest)).1 e ∙ sym (append_assoc a more rest),
    )
framed a more l m false h = λ rest e. h (more ++ rest) (e ∙ append_assoc a more rest)

-- two pieces
pub both : (a b l m n : List Event) (is : Bool) → Follows a [] l m true → Follows b [] m n is → Follows (a ++ b) [] l n is
both a b l m n is h k = follows_then (a ++ b) b [] l m n is (framed a b l m true h) k

-- the first of two pieces doesn't follow
pub not_both : (a b l m n : List Event) → Follows a [] l m false → Follows (a ++ b) [] l n false
not_both a b l m n h = framed a b l m false h

pub nothing : (l : List Event) → Follows [] [] l l true
nothing l = λ rest. (λ e. e, λ e. e)

pub cons-not-nil : {A : Type 0} (x : A) (xs : List A) → x ∷ xs ≡ [] → ⊥
cons-not-nil x xs e = none-some x (sym (ap (λ (ys : List _). slice_get ys 0) e))

-- the same piece under another name
pub renamed : (a b l m : List Event) (is : Bool) → a ≡ b → Follows a [] l m is → Follows b [] l m is
renamed a b l m is same h = subst (λ (x : List Event). Follows x [] l m is) same h

-- a piece that stands before what is left
pub passed : (a l m : List Event) → l ≡ a ++ m → Follows a [] l m true
passed a l m e = λ rest. (λ h. append_cancel_left a m rest (sym e ∙ h), λ h. e ∙ ap (λ x. a ++ x) h)

-- Texts

-- the first byte comes next, and the rest behind it
pub text_begun : (text more : List ℕ) (b : ℕ) (l m n : List Event) (is : Bool) → text ≡ b ∷ more → Follows (says b ∷ []) [] l m true → Follows (map says more) [] m n is → Follows (map says text) [] l n is
text_begun text more b l m n is e h g =
    renamed (says b ∷ map says more) (map says text) l n is (sym (ap (map says) e)) (both (says b ∷ []) (map says more) l m n is h g)

-- it doesn't
pub text_not_begun : (text more : List ℕ) (b : ℕ) (l m n : List Event) → text ≡ b ∷ more → Follows (says b ∷ []) [] l m false → Follows (map says text) [] l n false
text_not_begun text more b l m n e h =
    renamed (says b ∷ map says more) (map says text) l n false (sym (ap (map says) e)) (not_both (says b ∷ []) (map says more) l m n h)

-- Results

pub if_ok : {T E : Type 0} (r : Result T E) (P Q : T → Type 0) → ((x : T) → P x → Q x) → IfOk r P → IfOk r Q
if_ok (Ok x) P Q f p = f x p
if_ok (Err e) P Q f p = tt

-- what another tree says next
pub said_next : (said more l m : List Event) (event : Event) (is : Bool) → said ≡ event ∷ more → Follows (event ∷ []) [] l m is → Follows said more l m is
said_next said more l m event is same h =
    subst (λ (x : List Event). Follows x more l m is) (sym same) (framed (event ∷ []) more l m is h)

-- a byte of a text
pub text_met : (xs : List ℕ) (i : ℕ) (b : ℕ) (l m k : List Event) → drop i xs ≡ b ∷ drop (i + 1) xs → Follows (map says xs) (map says (drop i xs)) l m true → Follows (says b ∷ []) [] m k true → Follows (map says xs) (map says (drop (i + 1) xs)) l k true
text_met xs i b l m k e h g =
    follows_then (map says xs) (map says (drop i xs)) (map says (drop (i + 1) xs)) l m k true h (said_next (map says (drop i xs)) (map says (drop (i + 1) xs)) m k (says b) true (ap (map says) e) g)

-- three pieces
pub three : {E : Type 0} (r : Result Bool E) (a b c l m n k : List Event) → Follows a [] l m true → Follows b [] m n true → IfOk r (Follows c [] n k) → IfOk r (Follows (a ++ (b ++ c)) [] l k)
three r a b c l m n k h g f =
    if_ok r (Follows c [] n k) (Follows (a ++ (b ++ c)) [] l k) (λ (is : Bool) met. both a (b ++ c) l m k is h (both b c m n k is g met)) f

-- all of what is said
pub both_left : (a b l m : List Event) → Follows a b l m true → (l ≡ a) ↔ (m ≡ b)
both_left a b l m h = (
  λ e. (h []).0 (e ∙ sym (append-nil a)) ∙ append-nil b,
  λ e. (h []).1 (e ∙ sym (append-nil b)) ∙ append-nil a,
)

pub not_left : (a b l m : List Event) → Follows a b l m false → l ≢ a
not_left a b l m h = λ e. h [] (e ∙ sym (append-nil a))
