-- What is written of texts: runs of bytes, and what ends them.
use Rattle.memchr.specs.Find.{IsFirstByte, is_byte}
use Rattle.std.proofs.Common.{Bool, List, None, Option, Some, [], ap, ap₂, append-nil, arith, cond, drop, false, get_or, inl, inr, length, map, not, refl, rules, suc, sym, take, true, ℕ, ◌&&◌, ◌+◌, ◌-◌, ◌++◌, ◌<◌, ◌==◌, ◌∙◌, ◌≡◌, ◌≤◌, ◌∷◌}
use Rattle.std.proofs.lemmas.Bool.{and_parts, cases_Bool, cond-false, eqb-true, false_from_ne_true}
use Rattle.std.proofs.lemmas.List.{append_assoc, map-append, take-append-drop, take_all}
use Rattle.std.proofs.lemmas.List.Sums.{position_or_len_is, prefix_len_passes, prefix_len_stops, prefix_len-le-length}
use Rattle.std.specs.List.{list_all, position_or_len, prefix_len}
use Rattle.std.specs.Option.{unwrap_or}
use Rattle.tl_tree_extract.specs.Flowing.{Item, a_byte, after_item, after_items, ahead, in_line, is_white, item_of, item_written, text_items, written}
use Rattle.tl_tree_extract.specs.Inner.Runs.{after_run, is_plain, run_written}
use Rattle.tl_tree_extract.specs.declared.text.flow.Flow.{Flow}

-- One after the other

pub written-append : (f : Flow) (xs ys : List Item) → written f (xs ++ ys) ≡ written f xs ++ written (after_items f xs) ys
written-append f [] ys = refl
written-append f (x ∷ xs) ys =
    ap (λ v. item_written f x ++ v) (written-append (after_item f x) xs ys)
    ∙ sym (append_assoc (item_written f x) (written (after_item f x) xs) (written (after_items (after_item f x) xs) ys))

pub after-append : (f : Flow) (xs ys : List Item) → after_items f (xs ++ ys) ≡ after_items (after_items f xs) ys
after-append f [] ys = refl
after-append f (x ∷ xs) ys = after-append (after_item f x) xs ys

-- A byte of a line

pub not-true : (b : Bool) → not b ≡ true → b ≡ false
not-true true e = cc
not-true false e = refl

feed-is-white : (b : ℕ) → b == 10 ≡ true → is_white b ≡ true
feed-is-white b e = ap is_white (eqb-true b 10 e)

no-feed : (k : Bool) (b : ℕ) → is_plain k b ≡ true → b == 10 ≡ false
no-feed true b e = not-true (b == 10) e
no-feed false b e =
    let other = not-true (is_white b) e in
    false_from_ne_true (b == 10) (λ same. (let white = feed-is-white b same in cc))

as-byte : (k : Bool) (b : ℕ) → is_plain k b ≡ true → item_of k b ≡ a_byte b
as-byte true b e = refl
as-byte false b e = cond-false (is_white b) _ _ (not-true (is_white b) e)

pub byte-written : (k : Bool) (f : Flow) (b : ℕ) → is_plain k b ≡ true → item_written f (item_of k b) ≡ ahead f ++ b ∷ []
byte-written k f b e = ap (item_written f) (as-byte k b e) ∙ cond-false (b == 10) _ _ (no-feed k b e)

pub after-byte : (k : Bool) (f : Flow) (b : ℕ) → is_plain k b ≡ true → after_item f (item_of k b) ≡ in_line f
after-byte k f b e = ap (after_item f) (as-byte k b e) ∙ cond-false (b == 10) _ _ (no-feed k b e)

-- Runs

in-line-written : (k : Bool) (f : Flow) (bs : List ℕ) → list_all (is_plain k) bs ≡ true → written (in_line f) (text_items k bs) ≡ bs
in-line-written k f [] h = refl
in-line-written k f (b ∷ bs) h =
    let p = and_parts (is_plain k b) (list_all (is_plain k) bs) h in
    ap (λ v. v ++ written (after_item (in_line f) (item_of k b)) (text_items k bs)) (byte-written k (in_line f) b p.0)
    ∙ ap (λ (g : Flow). b ∷ written g (text_items k bs)) (after-byte k (in_line f) b p.0)
    ∙ ap (λ v. b ∷ v) (in-line-written k f bs p.1)

in-line-after : (k : Bool) (f : Flow) (bs : List ℕ) → list_all (is_plain k) bs ≡ true → after_items (in_line f) (text_items k bs) ≡ in_line f
in-line-after k f [] h = refl
in-line-after k f (b ∷ bs) h =
    let p = and_parts (is_plain k b) (list_all (is_plain k) bs) h in
    ap (λ (g : Flow). after_items g (text_items k bs)) (after-byte k (in_line f) b p.0) ∙ in-line-after k f bs p.1

run-written : (k : Bool) (f : Flow) (run : List ℕ) → list_all (is_plain k) run ≡ true → written f (text_items k run) ≡ run_written f run
run-written k f [] h = refl
run-written k f (b ∷ bs) h =
    let p = and_parts (is_plain k b) (list_all (is_plain k) bs) h in
    ap (λ v. v ++ written (after_item f (item_of k b)) (text_items k bs)) (byte-written k f b p.0)
    ∙ ap (λ (g : Flow). (ahead f ++ b ∷ []) ++ written g (text_items k bs)) (after-byte k f b p.0)
    ∙ ap (λ v. (ahead f ++ b ∷ []) ++ v) (in-line-written k f bs p.1)
    ∙ append_assoc (ahead f) (b ∷ []) bs

run-after : (k : Bool) (f : Flow) (run : List ℕ) → list_all (is_plain k) run ≡ true → after_items f (text_items k run) ≡ after_run f run
run-after k f [] h = refl
run-after k f (b ∷ bs) h =
    let p = and_parts (is_plain k b) (list_all (is_plain k) bs) h in
    ap (λ (g : Flow). after_items g (text_items k bs)) (after-byte k f b p.0) ∙ in-line-after k f bs p.1

len-more : (p : ℕ → Bool) (b : ℕ) (s : List ℕ) → p b ≡ true → prefix_len p (b ∷ s) ≡ suc (prefix_len p s)
len-more p b s e = ap (λ c. cond c (1 + prefix_len p s) 0) e ∙ omega arith

len-none : (p : ℕ → Bool) (b : ℕ) (s : List ℕ) → p b ≡ false → prefix_len p (b ∷ s) ≡ 0
len-none p b s e = ap (λ c. cond c (1 + prefix_len p s) 0) e

front-more : (p : ℕ → Bool) (b : ℕ) (s : List ℕ) (w : Bool) → p b ≡ w → list_all p (take (prefix_len p s) s) ≡ true → list_all p (take (prefix_len p (b ∷ s)) (b ∷ s)) ≡ true
front-more p b s true e h =
    ap (λ n. list_all p (take n (b ∷ s))) (len-more p b s e) ∙ ap₂ (λ u v. u && v) e h
front-more p b s false e h = ap (λ n. list_all p (take n (b ∷ s))) (len-none p b s e)

pub front-plain : (p : ℕ → Bool) (s : List ℕ) → list_all p (take (prefix_len p s) s) ≡ true
front-plain p [] = refl
front-plain p (b ∷ s) = front-more p b s (p b) refl (front-plain p s)

-- a text is its first run, and what is left of it
pub text-run : (k : Bool) (f : Flow) (s : List ℕ) (n : ℕ) → n ≡ prefix_len (is_plain k) s →
    written f (text_items k s) ≡ run_written f (take n s) ++ written (after_run f (take n s)) (text_items k (drop n s))
text-run k f s n e =
    let plain : list_all (is_plain k) (take n s) ≡ true = ap (λ m. list_all (is_plain k) (take m s)) e ∙ front-plain (is_plain k) s in
    ap (λ v. written f (text_items k v)) (sym (take-append-drop n s))
    ∙ ap (written f) (map-append (item_of k) (take n s) (drop n s))
    ∙ written-append f (text_items k (take n s)) (text_items k (drop n s))
    ∙ ap (λ v. v ++ written (after_items f (text_items k (take n s))) (text_items k (drop n s))) (run-written k f (take n s) plain)
    ∙ ap (λ (g : Flow). run_written f (take n s) ++ written g (text_items k (drop n s))) (run-after k f (take n s) plain)

pub text-after : (k : Bool) (f : Flow) (s : List ℕ) (n : ℕ) → n ≡ prefix_len (is_plain k) s →
    after_items f (text_items k s) ≡ after_items (after_run f (take n s)) (text_items k (drop n s))
text-after k f s n e =
    let plain : list_all (is_plain k) (take n s) ≡ true = ap (λ m. list_all (is_plain k) (take m s)) e ∙ front-plain (is_plain k) s in
    ap (λ v. after_items f (text_items k v)) (sym (take-append-drop n s))
    ∙ ap (after_items f) (map-append (item_of k) (take n s) (drop n s))
    ∙ after-append f (text_items k (take n s)) (text_items k (drop n s))
    ∙ ap (λ (g : Flow). after_items g (text_items k (drop n s))) (run-after k f (take n s) plain)

-- what ends a run

first-is : (x y : ℕ) (xs ys : List ℕ) → x ∷ xs ≡ y ∷ ys → x ≡ y
first-is x y xs ys e = cc

stop-more : (p : ℕ → Bool) (b : ℕ) (s : List ℕ) (mark : ℕ) (behind : List ℕ) (w : Bool) → p b ≡ w → (drop (prefix_len p s) s ≡ mark ∷ behind → p mark ≡ false) → drop (prefix_len p (b ∷ s)) (b ∷ s) ≡ mark ∷ behind → p mark ≡ false
stop-more p b s mark behind true w h e = h (sym (ap (λ n. drop n (b ∷ s)) (len-more p b s w)) ∙ e)
stop-more p b s mark behind false w h e =
    ap p (sym (first-is b mark s behind (sym (ap (λ n. drop n (b ∷ s)) (len-none p b s w)) ∙ e))) ∙ w

pub mark-stops : (p : ℕ → Bool) (s : List ℕ) (mark : ℕ) (behind : List ℕ) → drop (prefix_len p s) s ≡ mark ∷ behind → p mark ≡ false
mark-stops p [] mark behind e = cc
mark-stops p (b ∷ s) mark behind e = stop-more p b s mark behind (p b) refl (mark-stops p s mark behind) e

first-part : (s : List ℕ) → 1 ≤ length s → s ≡ get_or s 0 0 ∷ take (length s - 1) (drop 1 s)
first-part [] h = absurd (omega arith)
first-part (x ∷ s) h =
    let n : suc (length s) - 1 ≡ length s = omega arith in
    ap (λ v. x ∷ v) (sym (ap (λ k. take k s) n ∙ take_all (length s) s (omega arith)))

pub mark-ends : (k : Bool) (s : List ℕ) (n : ℕ) (marked : List ℕ) → n ≡ prefix_len (is_plain k) s → marked ≡ drop n s → 1 ≤ length marked → is_plain k (get_or marked 0 0) ≡ false
mark-ends k s n marked e is long =
    mark-stops (is_plain k) s (get_or marked 0 0) (take (length marked - 1) (drop 1 marked)) (ap (λ m. drop m s) (sym e) ∙ sym is ∙ first-part marked long)

empty-is : (s : List ℕ) → length s < 1 → s ≡ []
empty-is [] h = refl
empty-is (x ∷ s) h = absurd (omega arith)

pub text-done : (k : Bool) (f : Flow) (s : List ℕ) (n : ℕ) (run marked : List ℕ) → n ≡ prefix_len (is_plain k) s → run ≡ take n s → marked ≡ drop n s → length marked < 1 →
    (written f (text_items k s) ≡ run_written f run) × (after_items f (text_items k s) ≡ after_run f run)
text-done k f s n run marked e front back none =
    let nothing : drop n s ≡ [] = sym back ∙ empty-is marked none in (
      text-run k f s n e
          ∙ ap (λ v. run_written f (take n s) ++ written (after_run f (take n s)) (text_items k v)) nothing
          ∙ append-nil (run_written f (take n s))
          ∙ ap (run_written f) (sym front),
      text-after k f s n e
          ∙ ap (λ v. after_items (after_run f (take n s)) (text_items k v)) nothing
          ∙ ap (after_run f) (sym front),
    )

pub text-more : (k : Bool) (f g h : Flow) (s : List ℕ) (n : ℕ) (run marked : List ℕ) → n ≡ prefix_len (is_plain k) s → run ≡ take n s → marked ≡ drop n s → 1 ≤ length marked → g ≡ after_run f run → h ≡ after_item g (item_of k (get_or marked 0 0)) →
    (written f (text_items k s) ≡ run_written f run ++ (item_written g (item_of k (get_or marked 0 0)) ++ written h (text_items k (take (length marked - 1) (drop 1 marked)))))
    × (after_items f (text_items k s) ≡ after_items h (text_items k (take (length marked - 1) (drop 1 marked))))
text-more k f g h s n run marked e front back some gs hs =
    let parts : drop n s ≡ get_or marked 0 0 ∷ take (length marked - 1) (drop 1 marked) = sym back ∙ first-part marked some in
    let item : Item = item_of k (get_or marked 0 0) in
    let behind : List ℕ = take (length marked - 1) (drop 1 marked) in
    let own : after_run f (take n s) ≡ g = ap (after_run f) (sym front) ∙ sym gs in (
      text-run k f s n e
          ∙ ap (λ v. run_written f (take n s) ++ written (after_run f (take n s)) (text_items k v)) parts
          ∙ ap (λ (v : Flow). run_written f (take n s) ++ (item_written v item ++ written (after_item v item) (text_items k behind))) own
          ∙ ap (λ (v : Flow). run_written f (take n s) ++ (item_written g item ++ written v (text_items k behind))) (sym hs)
          ∙ ap (λ v. run_written f v ++ (item_written g item ++ written h (text_items k behind))) (sym front),
      text-after k f s n e
          ∙ ap (λ v. after_items (after_run f (take n s)) (text_items k v)) parts
          ∙ ap (λ (v : Flow). after_items (after_item v item) (text_items k behind)) own
          ∙ ap (λ (v : Flow). after_items v (text_items k behind)) (sym hs),
    )

-- How long a run is

pub line-len : (s : List ℕ) (r : Option ℕ) → IsFirstByte (is_byte 10) s r → unwrap_or r (length s) ≡ prefix_len (is_plain true) s
line-len s None none =
    sym (position_or_len_is (is_byte 10) s (length s) 0 (omega arith) (λ k l. false_from_ne_true (is_byte 10 (get_or s k 0)) (none k (omega arith) l)) (λ l. absurd (omega arith)))
line-len s (Some i) found =
    let inside = found.0.high in
    sym (position_or_len_is (is_byte 10) s i 0 (omega arith) (λ k l. false_from_ne_true (is_byte 10 (get_or s k 0)) (found.0.before k (omega arith) l)) (λ l. found.1))
