-- Where marks stand, as it is kept.
use Rattle.std.proofs.Common.{Bool, IsTrue, List, Some, [], ap, ap₂, arith, cond, false, get_or, inl, inr, length, length-append, map, nat_lt, refl, slice_get, subst, sym, true, ℕ, ◌+◌, ◌++◌, ◌-◌, ◌<◌, ◌^◌, ◌∙◌, ◌≡◌, ◌≤◌, ◌∷◌}
use Rattle.std.proofs.Math.ListN.{get_or-append}
use Rattle.std.proofs.Math.Seq.{get_or-append_seam}
use Rattle.std.proofs.lemmas.Bool.{cases_Bool, cond-false, cond-true, eq-eqb, lt-ltb, ltb-true, ne_eqb}
use Rattle.std.proofs.lemmas.List.{map-append}
use Rattle.std.proofs.lemmas.Option.{get_or_from_slice_get, slice_get-map, slice_get_read}
use Rattle.std.specs.List.{list_all}
use Rattle.std.specs.Option.{option_map}
use Rattle.tl_tree.proofs.Listed.{all-pushed, all-weaker, map-same}
use Rattle.tl_tree.proofs.Seats.{all-get}
use Rattle.tl_tree.specs.Places.{bounds_at, is_long, is_placed, start_of}
use Rattle.tl_tree.specs.declared.short_bounds.ShortBounds.{ShortBounds}
use Rattle.tl_tree.specs.declared.source.Bounds.{Bounds}

abbrev none : Bounds
none = record { start = 0; end = 0 }

abbrev own-bounds : ShortBounds → Bounds
own-bounds s = record { start = start_of s; end = start_of s + s.len }

-- One that is long, and one that isn't

long-at : (long : List Bounds) (s : ShortBounds) → s.len ≡ 255 → bounds_at long s ≡ get_or long (start_of s) none
long-at long s e = cond-true (is_long s) (get_or long (start_of s) none) (own-bounds s) (eq-eqb s.len 255 e)

short-at : (long : List Bounds) (s : ShortBounds) → (s.len ≡ 255 → ⊥) → bounds_at long s ≡ own-bounds s
short-at long s e = cond-false (is_long s) (get_or long (start_of s) none) (own-bounds s) (ne_eqb s.len 255 e)

long-within : (many : ℕ) (s : ShortBounds) → s.len ≡ 255 → IsTrue (is_placed many s) → start_of s < many
long-within many s e h =
    ltb-true (start_of s) many
    (subst (λ v. IsTrue v) (cond-true (is_long s) (nat_lt (start_of s) many) (nat_lt (start_of s + s.len) (2 ^ 32)) (eq-eqb s.len 255 e)) h)

placed-long : (many : ℕ) (s : ShortBounds) → s.len ≡ 255 → start_of s < many → IsTrue (is_placed many s)
placed-long many s e l =
    subst (λ v. IsTrue v) (sym (cond-true (is_long s) (nat_lt (start_of s) many) (nat_lt (start_of s + s.len) (2 ^ 32)) (eq-eqb s.len 255 e)))
    (lt-ltb (start_of s) many l)

-- What is read

found : (long : List Bounds) (short : List ShortBounds) (k : ℕ) (s : ShortBounds) (b : Bounds) → slice_get short k ≡ Some s → bounds_at long s ≡ b → Some b ≡ slice_get (map (bounds_at long) short) k
found long short k s b e f = sym (slice_get-map (bounds_at long) short k ∙ (ap (option_map (bounds_at long)) e ∙ ap Some f))

pub found-long : (long : List Bounds) (short : List ShortBounds) (k at : ℕ) (s : ShortBounds) (b : Bounds) → IsTrue (list_all (is_placed (length long)) short) → slice_get short k ≡ Some s → s.len ≡ 255 → at ≡ start_of s → b ≡ get_or long at b → Some b ≡ slice_get (map (bounds_at long) short) k
found-long long short k at s b all e is place read =
    let own : b ≡ get_or long (start_of s) b = read ∙ ap (λ n. get_or long n b) place in
    let below = long-within (length long) s is (all-get (is_placed (length long)) short k s all e) in
    found long short k s b e
    (long-at long s is
    ∙ get_or_from_slice_get long (start_of s) b none (slice_get_read long (length long) (start_of s) b refl below own))

pub found-short : (long : List Bounds) (short : List ShortBounds) (k at : ℕ) (s : ShortBounds) → slice_get short k ≡ Some s → (s.len ≡ 255 → ⊥) → at ≡ start_of s → Some (record { start = at; end = at + s.len }) ≡ slice_get (map (bounds_at long) short) k
found-short long short k at s e other place =
    found long short k s (record { start = at; end = at + s.len }) e
    (short-at long s other ∙ ap (λ n. let b : Bounds = record { start = n; end = n + s.len } in b) (sym place))

-- What is put behind

pushed : (long : List Bounds) (short all : List ShortBounds) (s : ShortBounds) (b : Bounds) → all ≡ short ++ s ∷ [] → bounds_at long s ≡ b → map (bounds_at long) all ≡ map (bounds_at long) short ++ b ∷ []
pushed long short all s b e f =
    ap (map (bounds_at long)) e
    ∙ (map-append (bounds_at long) short (s ∷ [])
    ∙ ap (λ v. map (bounds_at long) short ++ v ∷ []) f)

more-at : (long more : List Bounds) (s : ShortBounds) → IsTrue (is_placed (length long) s) → bounds_at (long ++ more) s ≡ bounds_at long s
more-at long more s h =
    elim (cases_Bool (is_long s)) [
      | inl y ↦
          cond-true (is_long s) (get_or (long ++ more) (start_of s) none) (own-bounds s) y
          ∙ (get_or-append long more none (start_of s)
          (ltb-true (start_of s) (length long) (subst (λ v. IsTrue v) (cond-true (is_long s) (nat_lt (start_of s) (length long)) (nat_lt (start_of s + s.len) (2 ^ 32)) y) h))
          ∙ sym (cond-true (is_long s) (get_or long (start_of s) none) (own-bounds s) y))
      | inr n ↦
          cond-false (is_long s) (get_or (long ++ more) (start_of s) none) (own-bounds s) n
          ∙ sym (cond-false (is_long s) (get_or long (start_of s) none) (own-bounds s) n)
    ]

pub pushed-long : (long more : List Bounds) (short all : List ShortBounds) (s : ShortBounds) (b : Bounds) → IsTrue (list_all (is_placed (length long)) short) → more ≡ long ++ b ∷ [] → all ≡ short ++ s ∷ [] → start_of s ≡ length long → s.len ≡ 255 → map (bounds_at more) all ≡ map (bounds_at long) short ++ b ∷ []
pushed-long long more short all s b h e f start len =
    pushed more short all s b f
    (long-at more s len
    ∙ (ap (λ v. get_or v (start_of s) none) e
    ∙ (ap (λ n. get_or (long ++ b ∷ []) n none) start ∙ get_or-append_seam long b [] none)))
    ∙ ap (λ v. v ++ b ∷ [])
    (ap (λ v. map (bounds_at v) short) e
    ∙ map-same (is_placed (length long)) (bounds_at (long ++ b ∷ [])) (bounds_at long) (more-at long (b ∷ [])) short h)

placed-more : (m n : ℕ) → m ≤ n → (s : ShortBounds) → IsTrue (is_placed m s) → IsTrue (is_placed n s)
placed-more m n le s h =
    elim (cases_Bool (is_long s)) [
      | inl y ↦ (
          let own = ltb-true (start_of s) m (subst (λ v. IsTrue v) (cond-true (is_long s) (nat_lt (start_of s) m) (nat_lt (start_of s + s.len) (2 ^ 32)) y) h) in
          subst (λ v. IsTrue v) (sym (cond-true (is_long s) (nat_lt (start_of s) n) (nat_lt (start_of s + s.len) (2 ^ 32)) y)) (lt-ltb (start_of s) n (omega (arith, own, le))))
      | inr e ↦
          subst (λ v. IsTrue v) (sym (cond-false (is_long s) (nat_lt (start_of s) n) (nat_lt (start_of s + s.len) (2 ^ 32)) e))
          (subst (λ v. IsTrue v) (cond-false (is_long s) (nat_lt (start_of s) m) (nat_lt (start_of s + s.len) (2 ^ 32)) e) h)
    ]

-- both lists got one more, or the second one did not
pub within-long : (long more : List Bounds) (short all : List ShortBounds) (s : ShortBounds) (b : Bounds) (r : Bool) → IsTrue (list_all (is_placed (length long)) short) → more ≡ long ++ b ∷ [] → all ≡ cond r (short ++ s ∷ []) short → start_of s ≡ length long → s.len ≡ 255 → IsTrue (list_all (is_placed (length more)) all)
within-long long more short all s b r h e f start len =
    let many = ap length e ∙ length-append long (b ∷ []) in
    all-pushed (is_placed (length more)) r short all s f
    (all-weaker (is_placed (length long)) (is_placed (length more)) (placed-more (length long) (length more) (omega (arith, many))) short h)
    (placed-long (length more) s len (omega (arith, many, start)))
