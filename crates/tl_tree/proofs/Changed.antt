-- One frame of a path is changed: the innermost one, or the one of a number.
use Rattle.std.proofs.Common.{ap, arith, sym, ◌∙◌, ◌≡◌, ◌<◌, ◌++◌, ◌∷◌, [], List, get_or, length, map, refl, reverse, suc, take, zero, ℕ}
use Rattle.std.proofs.lemmas.List.{length-reverse, map-append, reverse-append}
use Rattle.tl_dom_spec.specs.Path.{Frame, on_top}
use Rattle.tl_tree.specs.Inner.Frames.{changed}

-- the last one is first the other way round
pub reverse-last : {A : Type 0} (xs : List A) (n : ℕ) (d : A) → length xs ≡ suc n → reverse xs ≡ get_or xs n d ∷ reverse (take n xs)
reverse-last [] n d e = absurd (omega arith)
reverse-last (x ∷ []) zero d e = refl
reverse-last (x ∷ y ∷ xs) zero d e = absurd (omega arith)
reverse-last (x ∷ []) (suc n) d e = absurd (omega arith)
reverse-last (x ∷ y ∷ xs) (suc n) d e =
    let last = get_or (y ∷ xs) n d in
    reverse-append (x ∷ []) (y ∷ xs)
    ∙ (ap (λ r. r ++ x ∷ []) (reverse-last (y ∷ xs) n d (omega arith))
    ∙ ap (λ r. last ∷ r) (sym (reverse-append (x ∷ []) (take n (y ∷ xs)))))

pub map-reverse : {A B : Type 0} (f : A → B) (xs : List A) → map f (reverse xs) ≡ reverse (map f xs)
map-reverse f [] = refl
map-reverse f (x ∷ xs) =
    ap (map f) (reverse-append (x ∷ []) xs)
    ∙ (map-append f (reverse xs) (x ∷ [])
    ∙ (ap (λ ys. ys ++ f x ∷ []) (map-reverse f xs) ∙ sym (reverse-append (f x ∷ []) (map f xs))))

on-top-append : (change : Frame → Frame) (xs ys : List Frame) → 0 < length xs → on_top change xs ++ ys ≡ on_top change (xs ++ ys)
on-top-append change [] ys h = absurd (omega arith)
on-top-append change (x ∷ xs) ys h = refl

-- the last one is changed
pub changed-top : (change : Frame → Frame) (frames : List Frame) (n : ℕ) → length frames ≡ suc n → reverse (changed n change frames) ≡ on_top change (reverse frames)
changed-top change [] n e = absurd (omega arith)
changed-top change (f ∷ []) zero e = refl
changed-top change (f ∷ g ∷ frames) zero e = absurd (omega arith)
changed-top change (f ∷ []) (suc n) e = absurd (omega arith)
changed-top change (f ∷ g ∷ frames) (suc n) e =
    let many = length-reverse (g ∷ frames) in
    reverse-append (f ∷ []) (changed n change (g ∷ frames))
    ∙ (ap (λ r. r ++ f ∷ []) (changed-top change (g ∷ frames) n (omega arith))
    ∙ (on-top-append change (reverse (g ∷ frames)) (f ∷ []) (omega arith)
    ∙ ap (on_top change) (sym (reverse-append (f ∷ []) (g ∷ frames)))))

pub changed-length : (n : ℕ) (change : Frame → Frame) (frames : List Frame) → length (changed n change frames) ≡ length frames
changed-length n change [] = refl
changed-length zero change (f ∷ frames) = refl
changed-length (suc n) change (f ∷ frames) = ap suc (changed-length n change frames)

-- a change that changes nothing
pub changed-same : (n : ℕ) (change : Frame → Frame) (frames : List Frame) (f : Frame) → n < length frames → get_or frames n f ≡ f → change f ≡ f → changed n change frames ≡ frames
changed-same n change [] f h is e = refl
changed-same zero change (g ∷ frames) f h is e = ap (λ own. own ∷ frames) (ap change is ∙ (e ∙ sym is))
changed-same (suc n) change (g ∷ frames) f h is e = ap (λ rest. g ∷ rest) (changed-same n change frames f (omega arith) is e)

on-top-twice : (first second : Frame → Frame) (path : List Frame) → on_top second (on_top first path) ≡ on_top (λ f. second (first f)) path
on-top-twice first second [] = refl
on-top-twice first second (f ∷ path) = refl

-- the last one is changed twice
pub changed-top-twice : (first second : Frame → Frame) (frames mid last : List Frame) (n : ℕ) → length frames ≡ suc n → mid ≡ changed n first frames → last ≡ changed n second mid → reverse last ≡ on_top (λ f. second (first f)) (reverse frames)
changed-top-twice first second frames mid last n e p q =
    let many : length mid ≡ suc n = ap length p ∙ (changed-length n first frames ∙ e) in
    ap reverse q
    ∙ (changed-top second mid n many
    ∙ (ap (on_top second) (ap reverse p ∙ changed-top first frames n e)
    ∙ on-top-twice first second (reverse frames)))
