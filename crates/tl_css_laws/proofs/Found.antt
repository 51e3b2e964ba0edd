-- A selector is found at one list of numbers.
use Rattle.std.proofs.Common.{◌≡◌, ◌<◌, ◌⊎◌, ℕ, zero, suc, List, [], ◌∷◌, ap, arith, inl, inr, refl, subst, sym, ◌∙◌}
use Rattle.std.specs.List.{AllPairs, Contains}
use Rattle.tl_spec.specs.Tree.Document.{Node}
use Rattle.tl_css.specs.Meaning.{AreFound}
use Rattle.tl_css.specs.Selector.{Css}

abbrev pub Rises : List ℕ → Type 0
Rises ns = AllPairs (λ m n. m < n) ns

pub at_front : (n : ℕ) (ns : List ℕ) → Contains (n ∷ ns) n
at_front n ns = (0, omega arith, refl)

pub later : (n : ℕ) (ns : List ℕ) (m : ℕ) → Contains ns m → Contains (n ∷ ns) m
later n ns m h = (suc h.0, omega (arith, h.1), h.2)

pub in_nothing : (m : ℕ) → Contains [] m → ⊥
in_nothing m h = absurd (omega (arith, h.1))

pub cases : (n : ℕ) (ns : List ℕ) (m : ℕ) → Contains (n ∷ ns) m → (n ≡ m) ⊎ Contains ns m
cases n ns m (zero, l, e) = inl e
cases n ns m (suc k, l, e) = inr (k, omega (arith, l), e)

rises_later : (n : ℕ) (ns : List ℕ) → Rises (n ∷ ns) → Rises ns
rises_later n ns h i j d l m = h (suc i) (suc j) d (omega (arith, l)) (omega (arith, m))

above : (n : ℕ) (ns : List ℕ) → Rises (n ∷ ns) → (m : ℕ) → Contains ns m → n < m
above n ns h m c = subst (λ y. n < y) c.2 (h 0 (suc c.0) m (omega arith) (omega (arith, c.1)))

pub same : (ms ns : List ℕ) → Rises ms → Rises ns → ((x : ℕ) → Contains ms x → Contains ns x) → ((x : ℕ) → Contains ns x → Contains ms x) → ms ≡ ns
same [] [] h g f b = refl
same [] (n ∷ ns) h g f b = absurd (in_nothing n (b n (at_front n ns)))
same (m ∷ ms) [] h g f b = absurd (in_nothing m (f m (at_front m ms)))
same (m ∷ ms) (n ∷ ns) h g f b =
    let front : m ≡ n = fronts (cases n ns m (f m (at_front m ms))) (cases m ms n (b n (at_front n ns))) in
    ap (λ x. x ∷ ms) front ∙ ap (λ xs. n ∷ xs) (same ms ns (rises_later m ms h) (rises_later n ns g) (λ x c. forth front x c (cases n ns x (f x (later m ms x c)))) (λ x c. back front x c (cases m ms x (b x (later n ns x c)))))
  where
    fronts : (n ≡ m) ⊎ Contains ns m → (m ≡ n) ⊎ Contains ms n → m ≡ n
    fronts (inl e) c = sym e
    fronts (inr d) (inl e) = e
    fronts (inr d) (inr c) = absurd (omega (arith, above n ns g m d, above m ms h n c))

    forth : m ≡ n → (x : ℕ) → Contains ms x → (n ≡ x) ⊎ Contains ns x → Contains ns x
    forth e x c (inl d) = absurd (omega (arith, above m ms h x c, d, e))
    forth e x c (inr d) = d

    back : m ≡ n → (x : ℕ) → Contains ns x → (m ≡ x) ⊎ Contains ms x → Contains ms x
    back e x c (inl d) = absurd (omega (arith, above n ns g x c, d, e))
    back e x c (inr d) = d

pub found_once : (nodes : List Node) (e : Css) (ms ns : List ℕ) → AreFound nodes e ms → AreFound nodes e ns → ms ≡ ns
found_once nodes e ms ns h g =
    same ms ns h.rising g.rising (λ x c. (g.each x).1 ((h.each x).0 c)) (λ x c. (h.each x).1 ((g.each x).0 c))
