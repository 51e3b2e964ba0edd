-- The common ancestor, where all between it and the block may be settled.
use Rattle.std.proofs.Common.{ap, arith, sym, subst, ◌∙◌, ◌≡◌, ◌≢◌, ◌≤◌, ◌+◌, ◌-◌, ◌<◌, ◌&&◌, ◌||◌, ◌∷◌, [], Bool, List, None, Option, Some, cond, Err, Ok, OnOk, Result, drop, false, get_or, length, nat_eq, refl, suc, true, zero, ℕ}
use Rattle.std.proofs.lemmas.Bool.{eq-eqb, false≢true, ne_eqb}
use Rattle.std.proofs.lemmas.List.{get_or_default}
use Rattle.std.specs.List.{list_any}
use Rattle.std.specs.Prelude.{IfSome}
use Rattle.tl_dom_spec.specs.Adoption.{inside_of}
use Rattle.tl_dom_spec.specs.Builder.{Entry}
use Rattle.tl_dom_spec.specs.Formatting.{is_listed}
use Rattle.tl_dom_spec.specs.Path.{Frame, Path, elements, has_number, popped_while, top_settled}
use Rattle.tl_tree.proofs.AdoptedOver.{drop-more, settled-other, settled-own}
use Rattle.tl_tree.proofs.Entering.{number-read}
use Rattle.tl_tree.proofs.Fostered.{around-gone, around-there}
use Rattle.tl_tree.proofs.Furthest.{frame-there}
use Rattle.tl_tree.proofs.Over.{stands-open}
use Rattle.tl_tree.proofs.Popped.{some-around}
use Rattle.tl_tree.proofs.Readopted.{some-frame}
use Rattle.tl_tree.proofs.Skipped.{none-at, numbered-behind}
use Rattle.tl_tree.specs.Inner.Adopted.{frame_at, is_inside, shape}
use Rattle.tl_tree.specs.Inner.Frames.{around}
use Rattle.tl_tree.specs.declared.path.FramePath.{FramePath}

pub if-some-weaker : {T : Type 0} (P Q : T → Type 0) (r : Option T) → ((x : T) → P x → Q x) → IfSome r P → IfSome r Q
if-some-weaker P Q None f p = tt
if-some-weaker P Q (Some x) f p = f x p

pub if-some-both : {T : Type 0} (P Q R : T → Type 0) (r : Option T) → ((x : T) → P x → Q x → R x) → IfSome r P → IfSome r Q → IfSome r R
if-some-both P Q R None f p q = tt
if-some-both P Q R (Some x) f p q = f x p q

-- What is settled between

pub apart : (r : FramePath) (a m : ℕ) → a < m → m < length r.frames.items → nat_eq (frame_at r m).number (frame_at r a).number ≡ false
apart r a m less h =
    let f = get_or r.frames.items a (some-frame r) in
    let is : f ≡ get_or r.frames.items a f = get_or_default r.frames.items a (some-frame r) f (omega arith) in
    let own = frame-there r a f is (omega arith) in
    let e = number-read r.frames.items a f.number f is (omega arith) refl in
    ap (λ (g : Frame). nat_eq (frame_at r m).number g.number) own
    ∙ none-at (has_number f.number) r (a + 1) m (numbered-behind f.number a r e) (omega arith) h

pub settled-next : (p r q : FramePath) (a m : ℕ) → a < m → m < length r.frames.items → get_or r.gaps.marks.items m false ≡ false → shape (frame_at r a) ≡ shape (frame_at p a) → around q m ≡ top_settled (around r (m + 1)) → popped_while (is_inside (Some (frame_at p a).number)) (around q m) ≡ popped_while (is_inside (Some (frame_at p a).number)) (around r (m + 1))
settled-next p r q a m less h stands same path =
    let k = (frame_at p a).number in
    let test = is_inside (Some k) in
    let f = frame_at r m in
    let there = around-there r m h stands in
    let is : (frame_at r a).number ≡ k = ap (λ (g : Frame). g.number) same in
    let other : nat_eq f.number k ≡ false = ap (λ (n : ℕ). nat_eq f.number n) (sym is) ∙ apart r a m less h in
    ap (popped_while test) path
    ∙ (ap (λ (all : Path). popped_while test (top_settled all)) there
    ∙ (sym (settled-other k f (around r m) (some-around r m (omega arith) (omega arith)) other)
    ∙ sym (ap (popped_while test) there)))

-- all of it
pub settled-all : (p r : FramePath) (a : ℕ) → a < length r.frames.items → (frame_at p a).is_open ≡ true → shape (frame_at r a) ≡ shape (frame_at p a) → popped_while (is_inside (Some (frame_at p a).number)) (around r (a + 1)) ≡ around r (a + 1)
settled-all p r a h around-open same =
    let k = (frame_at p a).number in
    let opened = ap (λ (g : Frame). g.is_open) same ∙ around-open in
    let there = around-there r a h (stands-open r a opened h) in
    ap (popped_while (is_inside (Some k))) there
    ∙ (settled-own k (frame_at r a) (around r a) opened (ap (λ (g : Frame). g.number) same) ∙ sym there)

pub gone-next : (b x : Bool) → x ≡ true → cond b true x ≡ true
gone-next true x e = refl
gone-next false x e = e

pub stood-before : (b x : Bool) → cond b true x ≡ false → x ≡ false
stood-before true x e = absurd (false≢true (sym e))
stood-before false x e = e

drop-by : {A : Type 0} (xs ys : List A) (n gap m : ℕ) → m ≡ gap + n → drop n xs ≡ drop n ys → drop m xs ≡ drop m ys
drop-by xs ys n zero m is e =
    let same : m ≡ n = omega arith in
    ap (λ k. drop k xs) same ∙ (e ∙ sym (ap (λ k. drop k ys) same))
drop-by xs ys n (suc gap) m is e =
    let next : m ≡ suc (gap + n) = omega arith in
    ap (λ k. drop k xs) next
    ∙ (drop-more xs ys (gap + n) (drop-by xs ys n gap (gap + n) refl e) ∙ sym (ap (λ k. drop k ys) next))

-- those further in
pub drop-beyond : {A : Type 0} (xs ys : List A) (n m : ℕ) → n ≤ m → drop n xs ≡ drop n ys → drop m xs ≡ drop m ys
drop-beyond xs ys n m le e = drop-by xs ys n (m - n) m (omega arith) e

pub on-ok-any : {T E P : Type 0} (r : Result T E) → P → OnOk r P
on-ok-any (Ok x) p = p
on-ok-any (Err e) p = tt
