-- A run of characters in a span of the store.
use Rattle.std.proofs.Common.{Err, Ok, OnOk, Result, ap, arith, inl, inr, refl, sym, ◌∙◌, ◌≡◌, ◌+◌, ◌^◌, ◌≤◌, ◌<◌, ◌++◌, ◌&&◌, ◌∷◌, [], Bool, IsTrue, List, drop, false, get_or, length, length-append, length-drop, map, nat_le, take, true, ℕ}
use Rattle.std.proofs.lemmas.Bool.{and_from, and_parts, le-leb, leb-true, or_cases}
use Rattle.std.proofs.lemmas.List.{drop-drop, length-take-le, map-append, take-append-drop, take_all}
use Rattle.std.specs.List.{list_all}
use Rattle.std.specs.Prelude.{◌==◌}
use Rattle.tl_dom_spec.proofs.RunsLaw.{run_is}
use Rattle.tl_dom_spec.specs.Builder as dom
use Rattle.tl_dom_spec.specs.Dispatcher.{token_done, tokens_done}
use Rattle.tl_dom_spec.specs.Lawful.{EachCharacter}
use Rattle.tl_dom_spec.specs.Runs.{count_tokens, insert_text, is_of_run, kind_of, run_dispatched, run_taken}
use Rattle.tl_tree.proofs.Listed.{part-front}
use Rattle.tl_tree.proofs.Within.{or-left, or-right, span-bound}
use Rattle.tl_tree.specs.Inner.Builders.{token_of}
use Rattle.tl_tree.specs.Inner.Store.{bytes_of, is_span, text_of}
use Rattle.tl_tree.specs.Inner.Within.{span_is_within}
use Rattle.tl_tree.specs.declared.builder.Builder.{Builder}
use Rattle.tl_tree.specs.declared.span.Span.{Span}
use Rattle.tl_tree.specs.declared.store.Store.{Store}

pub bytes-none : (s : Store) (span : Span) → span.len ≡ 0 → bytes_of s span ≡ []
unfolding bytes_of
bytes-none s span e = ap (λ n. take n (drop span.start (text_of s))) e

pub bytes-length : (s : Store) (span : Span) → IsTrue (is_span s span) → length (bytes_of s span) ≡ span.len
unfolding bytes_of
bytes-length s span h =
    let bound = span-bound (length s.page.now) (length s.side.items) span h in
    let all = length-append s.page.now s.side.items in
    let behind = length-drop span.start (text_of s) in
    length-take-le span.len (drop span.start (text_of s)) (omega arith)

-- the text of a token

pub said-length : (b : Builder) → length (token_of b).text ≡ b.text.len
unfolding token_of
said-length b = bytes-length b.path.store b.text b.known.said

pub said-none : (b : Builder) → b.text.len ≡ 0 → (token_of b).text ≡ []
unfolding token_of
said-none b e = bytes-none b.path.store b.text e

pub said-bound : (b : Builder) → b.text.start + b.text.len < 2 ^ 32
said-bound b =
    let s = b.path.store in
    let short = s.short in
    let bound = span-bound (length s.page.now) (length s.side.items) b.text b.known.said in
    omega arith

part-within : (page side : ℕ) (span : Span) (from len : ℕ) → from + len ≤ span.len → IsTrue (span_is_within page side span) → IsTrue (span_is_within page side (record { start = span.start + from; len = len }))
part-within page side span from len le h =
    elim (or_cases (nat_le (span.start + span.len) page) (nat_le page span.start && nat_le (span.start + span.len) (page + side)) h) [
      | inl p ↦
          (let own = leb-true (span.start + span.len) page p in
          or-left (nat_le (span.start + from + len) page) (nat_le page (span.start + from) && nat_le (span.start + from + len) (page + side))
          (le-leb (span.start + from + len) page (omega arith)))
      | inr q ↦
          (let parts = and_parts (nat_le page span.start) (nat_le (span.start + span.len) (page + side)) q in
          let start = leb-true page span.start parts.0 in
          let end = leb-true (span.start + span.len) (page + side) parts.1 in
          or-right (nat_le (span.start + from + len) page) (nat_le page (span.start + from) && nat_le (span.start + from + len) (page + side))
          (and_from (nat_le page (span.start + from)) (nat_le (span.start + from + len) (page + side))
          (le-leb page (span.start + from) (omega arith)) (le-leb (span.start + from + len) (page + side) (omega arith))))
    ]

pub said-within : (b : Builder) (from len : ℕ) → from + len ≤ length (token_of b).text → IsTrue (is_span b.path.store (record { start = b.text.start + from; len = len }))
said-within b from len le =
    let s = b.path.store in
    let long = said-length b in
    part-within (length s.page.now) (length s.side.items) b.text from len (omega arith) b.known.said

pub said-part : (b : Builder) (from len : ℕ) → from + len ≤ length (token_of b).text → bytes_of b.path.store (record { start = b.text.start + from; len = len }) ≡ take len (drop from (token_of b).text)
unfolding bytes_of token_of
said-part b from len le =
    let s = b.path.store in
    let xs = drop b.text.start (text_of s) in
    ap (take len) (sym (drop-drop from b.text.start (text_of s)))
    ∙ ap (λ own. take len (drop from own)) (sym (take-append-drop b.text.len xs))
    ∙ part-front len from (take b.text.len xs) (drop b.text.len xs) le

pub first-rest : (xs : List ℕ) → 0 < length xs → xs ≡ get_or xs 0 0 ∷ drop 1 xs
first-rest [] some = absurd (omega arith)
first-rest (x ∷ xs) some = refl

pub take-rest : (xs : List ℕ) (from len : ℕ) → from + len ≡ length xs → take len (drop from xs) ≡ drop from xs
take-rest xs from len e =
    let behind = length-drop from xs in
    take_all len (drop from xs) (omega arith)

-- Runs

tokens-append : (xs ys : List dom.Token) (b : dom.Builder) → tokens_done b (xs ++ ys) ≡ tokens_done (tokens_done b xs) ys
tokens-append [] ys b = refl
tokens-append (x ∷ xs) ys b = tokens-append xs ys (token_done b x)

each-of : (test : ℕ → Bool) (xs : List ℕ) → IsTrue (list_all test xs) → EachCharacter (λ d. test d ≡ true) xs
each-of test [] h = tt
each-of test (x ∷ xs) h =
    let p = and_parts (test x) (list_all test xs) h in
    (p.0, each-of test xs p.1)

-- a run, and then what is left
run-part : (b : dom.Builder) (text : List ℕ) (c n : ℕ) → text ≡ c ∷ drop 1 text → (b.skips && (c == 10)) ≡ false → IsTrue (list_all (is_of_run (token_done b (dom.a_character c)).mode (kind_of c)) (take n (drop 1 text))) → tokens_done b (map dom.a_character text) ≡ tokens_done (run_taken (take n (drop 1 text)) (token_done b (dom.a_character c))) (map dom.a_character (drop (n + 1) text))
run-part b text c n e skips same =
    let rest = drop 1 text in
    let run = take n rest in
    let next : 1 + n ≡ n + 1 = omega arith in
    let left : drop n rest ≡ drop (n + 1) text = drop-drop n 1 text ∙ ap (λ m. drop m text) next in
    ap (λ own. tokens_done b (map dom.a_character own)) (e ∙ ap (λ own. c ∷ own) (sym (take-append-drop n rest)))
    ∙ ap (tokens_done b) (map-append dom.a_character (c ∷ run) (drop n rest))
    ∙ tokens-append (map dom.a_character (c ∷ run)) (map dom.a_character (drop n rest)) b
    ∙ ap (λ own. tokens_done own (map dom.a_character (drop n rest)))
    (run_is b c run skips (each-of (is_of_run (token_done b (dom.a_character c)).mode (kind_of c)) run same))
    ∙ ap (λ own. tokens_done (run_taken run (token_done b (dom.a_character c))) (map dom.a_character own)) left

-- the same where all of them have names
pub part-taken : (b b1 b2 : dom.Builder) (text text1 text2 : List ℕ) (c n : ℕ) → text ≡ c ∷ drop 1 text → (b.skips && (c == 10)) ≡ false → b1 ≡ token_done b (dom.a_character c) → text1 ≡ text → IsTrue (list_all (is_of_run b1.mode (kind_of c)) (take n (drop 1 text1))) → b2 ≡ run_taken (take n (drop 1 text1)) b1 → text2 ≡ drop (n + 1) text1 → tokens_done b (map dom.a_character text) ≡ tokens_done b2 (map dom.a_character text2)
part-taken b b1 b2 text text1 text2 c n e skips taken same all ok left =
    run-part b text c n e skips
    (ap (λ (own : dom.Builder). list_all (is_of_run own.mode (kind_of c)) (take n (drop 1 text))) (sym taken)
    ∙ ap (λ own. list_all (is_of_run b1.mode (kind_of c)) (take n (drop 1 own))) (sym same) ∙ all)
    ∙ ap (λ own. tokens_done (run_taken (take n (drop 1 text)) own) (map dom.a_character (drop (n + 1) text))) (sym taken)
    ∙ ap (λ own. tokens_done (run_taken (take n (drop 1 own)) b1) (map dom.a_character (drop (n + 1) own))) (sym same)
    ∙ ap (λ own. tokens_done own (map dom.a_character (drop (n + 1) text1))) (sym ok)
    ∙ ap (λ own. tokens_done b2 (map dom.a_character own)) (sym left)

pub text-some : (bytes : List ℕ) (b : dom.Builder) → 0 < length bytes → insert_text bytes b ≡ dom.insert_bytes bytes b
text-some [] b some = absurd (omega arith)
text-some (c ∷ bytes) b some = refl

pub run-some : (bytes : List ℕ) (b : dom.Builder) (n : ℕ) → n ≡ length bytes → 0 < n → count_tokens n (run_dispatched bytes b) ≡ run_taken bytes b
run-some [] b n e some = absurd (omega (arith, e))
run-some (c ∷ run) b n e some = ap (λ many. count_tokens many (run_dispatched (c ∷ run) b)) e

pub ok-then : {T E A : Type 0} (r : Result T E) (x y z : A) → y ≡ z → OnOk r (x ≡ y) → OnOk r (x ≡ z)
ok-then (Ok v) x y z e is = is ∙ e
ok-then (Err v) x y z e is = is
