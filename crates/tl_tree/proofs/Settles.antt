-- Steps of settling.
use Rattle.std.proofs.Common.{Bool, IsTrue, List, Some, [], ap, arith, drop, get_or, inl, inr, length, length-append, map, nat_le, refl, subst, suc, sym, take, true, zero, ℕ, ◌&&◌, ◌+◌, ◌++◌, ◌-◌, ◌<◌, ◌∙◌, ◌≡◌, ◌≢◌, ◌≤◌, ◌∷◌}
use Rattle.std.proofs.Math.Seq.{drop-append_seam, take-add}
use Rattle.std.proofs.lemmas.Bool.{and_from, and_parts, le-leb, leb-true, or_cases}
use Rattle.std.proofs.lemmas.List.{append-nil, append_assoc}
use Rattle.std.specs.List.{list_all}
use Rattle.tl_dom_spec.specs.Marks.{marked}
use Rattle.tl_tree.proofs.Listed.{all-weaker, map-same, part-front}
use Rattle.tl_tree.proofs.Within.{or-left, or-right, span-bound, span-more}
use Rattle.tl_tree.specs.Inner.Gathering.{flat, text_before}
use Rattle.tl_tree.specs.Inner.RowView.{bytes_in, flat_in, held_in, held_is_within, row_is_within}
use Rattle.tl_tree.specs.Inner.Settling.{pending_of, sizes_with, text_of_pieces, text_with}
use Rattle.tl_tree.specs.Inner.Store.{bytes_of, is_span, sizes_of, text_of}
use Rattle.tl_tree.specs.Inner.Within.{span_is_within}
use Rattle.tl_tree.specs.Rows as rows
use Rattle.tl_tree.specs.declared.row.Held.{Held}
use Rattle.tl_tree.specs.declared.row.Held.TheVariants as held
use Rattle.tl_tree.specs.declared.row.Row.{Row}
use Rattle.tl_tree.specs.declared.span.Span.{Span}
use Rattle.tl_tree.specs.declared.store.Store.{Store}

-- Bytes

drop-none : {A : Type 0} (n : ℕ) → drop n (let xs : List A = [] in xs) ≡ []
drop-none zero = refl
drop-none (suc n) = refl

pub drop-sum : {A : Type 0} (a b n : ℕ) (xs : List A) → n ≡ a + b → drop n xs ≡ drop b (drop a xs)
drop-sum zero b n xs e = let same : n ≡ b = omega (arith, e) in ap (λ v. drop v xs) same
drop-sum (suc a) b zero xs e = absurd (let f : ⊥ = omega (arith, e) in f)
drop-sum (suc a) b (suc n) [] e = sym (drop-none b)
drop-sum (suc a) b (suc n) (x ∷ xs) e = drop-sum a b n xs (omega (arith, e))

-- two spans side by side
pub beside-within : (s : Store) (first second : Span) → IsTrue (is_span s first) → IsTrue (is_span s second) → first.start + first.len ≡ second.start → second.start ≢ length s.page.now → IsTrue (is_span s (record { start = first.start; len = first.len + second.len }))
beside-within s first second h k beside other =
    let page = length s.page.now in
    let all = page + length s.side.items in
    let end = first.start + (first.len + second.len) in
    elim (or_cases (nat_le (second.start + second.len) page) (nat_le page second.start && nat_le (second.start + second.len) all) k) [
      | inl p ↦ (let own = leb-true (second.start + second.len) page p in
          or-left (nat_le end page) (nat_le page first.start && nat_le end all) (le-leb end page (omega (arith, own, beside))))
      | inr q ↦ (
          let parts = and_parts (nat_le page second.start) (nat_le (second.start + second.len) all) q in
          let above = leb-true page second.start parts.0 in
          let below = leb-true (second.start + second.len) all parts.1 in
          elim (or_cases (nat_le (first.start + first.len) page) (nat_le page first.start && nat_le (first.start + first.len) all) h) [
            | inl p ↦ (let own = leb-true (first.start + first.len) page p in absurd (other (omega (arith, own, beside, above))))
            | inr r ↦ or-right (nat_le end page) (nat_le page first.start && nat_le end all)
                (and_from (nat_le page first.start) (nat_le end all)
                (and_parts (nat_le page first.start) (nat_le (first.start + first.len) all) r).0
                (le-leb end all (omega (arith, below, beside))))
          ])
    ]

pub beside-bytes : (s : Store) (first second : Span) → first.start + first.len ≡ second.start → bytes_of s (record { start = first.start; len = first.len + second.len }) ≡ bytes_of s first ++ bytes_of s second
unfolding bytes_of
beside-bytes s first second beside =
    take-add first.len second.len (drop first.start (text_of s))
    ∙ ap (λ v. take first.len (drop first.start (text_of s)) ++ take second.len v) (sym (drop-sum first.start first.len second.start (text_of s) (sym beside)))

-- Pieces

-- a piece more, which stands before the others
pub pieces-more : (s : Store) (pieces : List Span) (piece : Span) → text_of_pieces s (pieces ++ piece ∷ []) ≡ bytes_of s piece ++ text_of_pieces s pieces
pieces-more s [] piece = sym (append-nil (bytes_of s piece))
pieces-more s (own ∷ pieces) piece =
    ap (λ v. v ++ bytes_of s own) (pieces-more s pieces piece) ∙ append_assoc (bytes_of s piece) (text_of_pieces s pieces) (bytes_of s own)

pending-some : (s : Store) (n : ℕ) (pieces : List Span) (piece : Span) → pending_of s n (pieces ++ piece ∷ []) ≡ Some (marked n (bytes_of s piece ++ text_of_pieces s pieces))
pending-some s n [] piece = ap (λ v. Some (marked n v)) (sym (append-nil (bytes_of s piece)))
pending-some s n (own ∷ pieces) piece = ap (λ v. Some (marked n v)) (pieces-more s (own ∷ pieces) piece)

-- whatever stood before the pieces so far
pub pending-pushed : (s : Store) (n m : ℕ) (pieces all : List Span) (piece : Span) → all ≡ pieces ++ piece ∷ [] → pending_of s n all ≡ text_before (marked n (bytes_of s piece)) (pending_of s m pieces)
pending-pushed s n m [] all piece e = ap (pending_of s n) e ∙ pending-some s n [] piece ∙ ap (λ v. Some (marked n v)) (append-nil (bytes_of s piece))
pending-pushed s n m (own ∷ pieces) all piece e = ap (pending_of s n) e ∙ pending-some s n (own ∷ pieces) piece

-- a piece that is lengthened to the front
pub pending-merged : (s : Store) (n m : ℕ) (pieces old all : List Span) (piece next both : Span) → old ≡ pieces ++ next ∷ [] → all ≡ pieces ++ both ∷ [] → bytes_of s both ≡ bytes_of s piece ++ bytes_of s next →
    pending_of s n all ≡ text_before (marked n (bytes_of s piece)) (pending_of s m old)
pending-merged s n m pieces old all piece next both was is bytes =
    ap (pending_of s n) is ∙ (pending-some s n pieces both
    ∙ (ap (λ v. Some (marked n (v ++ text_of_pieces s pieces))) bytes
    ∙ (ap (λ v. Some (marked n v)) (append_assoc (bytes_of s piece) (bytes_of s next) (text_of_pieces s pieces))
    ∙ ap (text_before (marked n (bytes_of s piece))) (sym (ap (pending_of s m) was ∙ pending-some s m pieces next)))))

pub pending-again : (s : Store) (n m : ℕ) (pieces old mid all : List Span) (piece next : Span) → old ≡ pieces ++ next ∷ [] → mid ≡ pieces ++ next ∷ [] → all ≡ mid ++ piece ∷ [] →
    pending_of s n all ≡ text_before (marked n (bytes_of s piece)) (pending_of s m old)
pending-again s n m pieces old mid all piece next was is last =
    pending-pushed s n m mid all piece last ∙ ap (λ v. text_before (marked n (bytes_of s piece)) (pending_of s m v)) (is ∙ sym was)

pub all-last : {A : Type 0} (test : A → Bool) (xs all : List A) (x : A) → all ≡ xs ++ x ∷ [] → IsTrue (list_all test xs) → IsTrue (test x) → IsTrue (list_all test all)
all-last test xs all x e h k = subst (λ v. IsTrue (list_all test v)) (sym e) (pushed test xs x h k)
  where
    pushed : {A : Type 0} (test : A → Bool) (xs : List A) (x : A) → IsTrue (list_all test xs) → IsTrue (test x) → IsTrue (list_all test (xs ++ x ∷ []))
    pushed test [] x h k = and_from (test x) true k refl
    pushed test (y ∷ xs) x h k =
        let p = and_parts (test y) (list_all test xs) h in
        and_from (test y) (list_all test (xs ++ x ∷ [])) p.0 (pushed test xs x p.1 k)

pub all-first : {A : Type 0} (test : A → Bool) (xs all : List A) (x : A) → all ≡ xs ++ x ∷ [] → IsTrue (list_all test all) → IsTrue (list_all test xs)
all-first test xs all x e h = first test xs x (subst (λ v. IsTrue (list_all test v)) e h)
  where
    first : {A : Type 0} (test : A → Bool) (xs : List A) (x : A) → IsTrue (list_all test (xs ++ x ∷ [])) → IsTrue (list_all test xs)
    first test [] x h = refl
    first test (y ∷ xs) x h =
        let p = and_parts (test y) (list_all test (xs ++ x ∷ [])) h in
        and_from (test y) (list_all test xs) p.0 (first test xs x p.1)

-- Rows and pieces where more is copied

pub grown-bytes : (s : Store) (more : List ℕ) (span : Span) → IsTrue (is_span s span) → bytes_in (text_of s ++ more) span ≡ bytes_of s span
unfolding bytes_of
grown-bytes s more span h =
    let bound = span-bound (length s.page.now) (length s.side.items) span h in
    let many = length-append s.page.now s.side.items in
    part-front span.len span.start (text_of s) more (omega (arith, bound, many))

text-again : (s : Store) (copied more : List ℕ) (span : Span) → IsTrue (span_is_within (length s.page.now) (length s.side.items + length copied) span) → bytes_in (text_with s (copied ++ more)) span ≡ bytes_in (text_with s copied) span
text-again s copied more span h =
    let bound = span-bound (length s.page.now) (length s.side.items + length copied) span h in
    let many = length-append s.page.now s.side.items in
    let all = length-append (text_of s) copied in
    ap (λ v. take span.len (drop span.start v)) (sym (append_assoc (text_of s) copied more))
    ∙ part-front span.len span.start (text_with s copied) more (omega (arith, bound, many, all))

pub held-again : (s : Store) (copied more : List ℕ) (held : Held) → IsTrue (held_is_within (sizes_with s copied) held) → held_in s (text_with s (copied ++ more)) held ≡ held_in s (text_with s copied) held
held-again s copied more (held.Element tag) h = refl
held-again s copied more held.Contents h = refl
held-again s copied more (held.Text own) h = ap (λ v. rows.a_text (marked own.source v)) (text-again s copied more own.span h)
held-again s copied more (held.Comment own) h = ap (λ v. rows.a_comment (marked own.source v)) (text-again s copied more own.span h)
held-again s copied more (held.Doctype n source) h = refl

pub held-same : (s : Store) (more : List ℕ) (held : Held) → IsTrue (held_is_within (sizes_of s) held) → held_in s (text_with s more) held ≡ held_in s (text_of s) held
unfolding bytes_of
held-same s more (held.Element tag) h = refl
held-same s more held.Contents h = refl
held-same s more (held.Text own) h = ap (λ v. rows.a_text (marked own.source v)) (grown-bytes s more own.span h)
held-same s more (held.Comment own) h = ap (λ v. rows.a_comment (marked own.source v)) (grown-bytes s more own.span h)
held-same s more (held.Doctype n source) h = refl

held-more : (s : Store) (copied more : List ℕ) (held : Held) → IsTrue (held_is_within (sizes_with s copied) held) → IsTrue (held_is_within (sizes_with s (copied ++ more)) held)
held-more s copied more (held.Element tag) h = h
held-more s copied more held.Contents h = h
held-more s copied more (held.Text own) h =
    let many = length-append copied more in
    span-more (length s.page.now) (length s.side.items + length copied) (length s.side.items + length (copied ++ more)) own.span (omega (arith, many)) h
held-more s copied more (held.Comment own) h =
    let many = length-append copied more in
    span-more (length s.page.now) (length s.side.items + length copied) (length s.side.items + length (copied ++ more)) own.span (omega (arith, many)) h
held-more s copied more (held.Doctype n source) h = h

pub rows-more : (s : Store) (copied more all : List ℕ) (written : List Row) → all ≡ copied ++ more → IsTrue (list_all (row_is_within (sizes_with s copied)) written) → IsTrue (list_all (row_is_within (sizes_with s all)) written)
rows-more s copied more all written e h =
    subst (λ v. IsTrue (list_all (row_is_within (sizes_with s v)) written)) (sym e)
    (all-weaker (row_is_within (sizes_with s copied)) (row_is_within (sizes_with s (copied ++ more))) (λ (row : Row). held-more s copied more row.held) written h)

pub flats-again : (s : Store) (copied more all : List ℕ) (written : List Row) → all ≡ copied ++ more → IsTrue (list_all (row_is_within (sizes_with s copied)) written) → map (flat_in s (text_with s all)) written ≡ map (flat_in s (text_with s copied)) written
flats-again s copied more all written e h =
    ap (λ v. map (flat_in s (text_with s v)) written) e
    ∙ map-same (row_is_within (sizes_with s copied)) (flat_in s (text_with s (copied ++ more))) (flat_in s (text_with s copied)) (λ (row : Row) within. ap (λ node. flat node row.end) (held-again s copied more row.held within)) written h

pub one-piece : (pieces : List Span) (piece : Span) → length pieces ≡ 1 → piece ≡ get_or pieces 0 piece → pieces ≡ piece ∷ []
one-piece [] piece long e = absurd (let f : ⊥ = omega (arith, long) in f)
one-piece (own ∷ []) piece long e = ap (λ v. v ∷ []) (sym e)
one-piece (own ∷ other ∷ pieces) piece long e = absurd (let f : ⊥ = omega (arith, long) in f)

-- what was copied last
pub copied-bytes : (s : Store) (copied more all : List ℕ) (start len : ℕ) → all ≡ copied ++ more → start ≡ length s.page.now + (length s.side.items + length copied) → len ≡ length more → bytes_in (text_with s all) (record { start = start; len = len }) ≡ more
copied-bytes s copied more all start len e place many =
    let front = text_with s copied in
    let first = length-append s.page.now s.side.items in
    let second = length-append (text_of s) copied in
    let at : start ≡ length front = omega (arith, place, first, second) in
    ap (λ v. take len (drop start (text_with s v))) e
    ∙ (ap (λ v. take len (drop start v)) (sym (append_assoc (text_of s) copied more))
    ∙ (ap (λ v. take len (drop v (front ++ more))) at
    ∙ (ap (take len) (drop-append_seam front more)
    ∙ (ap (λ v. take v more) many ∙ take-whole more))))
  where
    take-whole : {A : Type 0} (xs : List A) → take (length xs) xs ≡ xs
    take-whole [] = refl
    take-whole (x ∷ xs) = ap (λ v. x ∷ v) (take-whole xs)

pub copied-within : (page side copied start len : ℕ) → start ≡ page + (side + copied) → (all : ℕ) → start + len ≤ page + (side + all) → IsTrue (span_is_within page (side + all) (record { start = start; len = len }))
copied-within page side copied start len place all below =
    or-right (nat_le (start + len) page) (nat_le page start && nat_le (start + len) (page + (side + all)))
    (and_from (nat_le page start) (nat_le (start + len) (page + (side + all))) (le-leb page start (omega (arith, place))) (le-leb (start + len) (page + (side + all)) below))

text-drop : (s : Store) (pieces : List Span) (k : ℕ) (d : Span) → k < length pieces → text_of_pieces s (drop k pieces) ≡ text_of_pieces s (drop (suc k) pieces) ++ bytes_of s (get_or pieces k d)
text-drop s [] k d l = absurd (let f : ⊥ = omega (arith, l) in f)
text-drop s (own ∷ pieces) zero d l = refl
text-drop s (own ∷ pieces) (suc k) d l = text-drop s pieces k d (omega (arith, l))

pub copy-step : (s : Store) (pieces : List Span) (left : ℕ) (d : Span) (initial copied all bytes : List ℕ) → 0 < left → left ≤ length pieces → bytes ≡ bytes_of s (get_or pieces (left - 1) d) → copied ≡ initial ++ text_of_pieces s (drop left pieces) → all ≡ copied ++ bytes → all ≡ initial ++ text_of_pieces s (drop (left - 1) pieces)
copy-step s pieces left d initial copied all bytes some below is was now =
    let next : suc (left - 1) ≡ left = omega (arith, some) in
    now ∙ (ap (λ v. copied ++ v) is
    ∙ (ap (λ v. v ++ bytes_of s (get_or pieces (left - 1) d)) was
    ∙ (append_assoc initial (text_of_pieces s (drop left pieces)) (bytes_of s (get_or pieces (left - 1) d))
    ∙ ap (λ v. initial ++ v) (sym (text-drop s pieces (left - 1) d (omega (arith, some, below)) ∙ ap (λ n. text_of_pieces s (drop n pieces) ++ bytes_of s (get_or pieces (left - 1) d)) next)))))

pub all-own : {A : Type 0} (test : A → Bool) (xs all : List A) (x : A) → all ≡ xs ++ x ∷ [] → IsTrue (list_all test all) → IsTrue (test x)
all-own test xs all x e h = own test xs x (subst (λ v. IsTrue (list_all test v)) e h)
  where
    own : {A : Type 0} (test : A → Bool) (xs : List A) (x : A) → IsTrue (list_all test (xs ++ x ∷ [])) → IsTrue (test x)
    own test [] x h = (and_parts (test x) true h).0
    own test (y ∷ xs) x h = own test xs x (and_parts (test y) (list_all test (xs ++ x ∷ [])) h).1
