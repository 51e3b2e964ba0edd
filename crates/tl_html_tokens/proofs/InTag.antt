-- Reading goes on in a tag of markup.
use Rattle.std.proofs.Common.{◌≡◌, ◌≤◌, ◌<◌, ℕ, zero, suc, ◌+◌, ◌-◌, Bool, true, false, not, inl, inr, ◌==◌, ◌||◌, ◌&&◌, List, [], ◌∷◌, length, take, drop, get_or, refl, ap, sym, true≢false, subst, ◌∙◌, arith, if◌then◌else◌}
use Rattle.std.specs.Char.{is_ascii_alphabetic, is_ascii_alphanumeric, is_ascii_digit, is_ascii_hexdigit, to_ascii_lowercase}
use Rattle.std.specs.List.{list_all}
use Rattle.std.proofs.lemmas.Bool.{and_from, and_parts, cases_Bool, cond_both, eqb-true, false_from_ne_true, not-false, not-true, or_cases, or_from, or_parts}
use Rattle.std.proofs.lemmas.List.{drop_more}
use Rattle.tl_html_spec.specs.HtmlTokenizer.{ends_name, is_white_space}
use Rattle.tl_html_spec.specs.Reader.{feed}
use Rattle.tl_html_tokens.specs.Fronts.{IsFront}
use Rattle.tl_html_tokens.specs.Inner.Machine as M
use Rattle.tl_html_tokens.specs.Inner.Scanned.{scanned, unless_ended}
use Rattle.tl_html_tokens.specs.Inner.Scans as S
use Rattle.tl_html_tokens.specs.Inner.Stages.{has_word, kind_at_end}
use Rattle.tl_html_tokens.specs.declared.front.Scan.{Scan}
use Rattle.tl_html_tokens.specs.declared.front.Scanned.{Scanned}
use Rattle.tl_html_tokens.specs.declared.front.Scanned.TheVariants.{On, Before}
use Rattle.tl_html_tokens.specs.declared.mode.Mode.{Mode}
use Rattle.tl_html_tokens.specs.declared.mode.Mode.TheVariants as mode
use Rattle.tl_html_tokens.specs.declared.stage.Place.TheVariants as place
use Rattle.tl_html_tokens.specs.declared.stage.Quote.{Quote}
use Rattle.tl_html_tokens.specs.declared.stage.Quote.TheVariants as quote
use Rattle.tl_html_tokens.specs.declared.stage.Stage.{Stage}
use Rattle.tl_html_tokens.specs.declared.stage.Stage.TheVariants as stage
use Rattle.tl_html_tokens.specs.declared.stage.Tag.{Tag}
use Rattle.tl_html_tokens.specs.declared.stage.TokenKind.TheVariants as kind
use Rattle.tl_html_tokens.specs.declared.stage.Turn.{Turn}
use Rattle.tl_html_tokens.specs.declared.stage.Turn.TheVariants.{Goes, Ends}
use Rattle.tl_html_tokens.proofs.Beginning.{scanned_to, start_name, end_name}
use Rattle.tl_html_tokens.proofs.Ending.{scan_end, whole_end}
use Rattle.tl_html_tokens.proofs.Passing.{ends, feed_is, key_goes}
use Rattle.tl_html_tokens.proofs.Places.{between}
use Rattle.tl_html_tokens.proofs.Reading.{IsScan, scan_first}
use Rattle.tl_html_tokens.specs.Inner.InTag.{IsAfterKey, IsBeforeValue, IsInTag, IsKeyed, IsRead, at_rest}

-- more bytes

by_next : (page : List ℕ) (n m at : ℕ) (s : Scan) → ((y : Scan) → scanned n page (at + 1) y ≡ On s → scanned (n + m) page (at + 1) y ≡ scanned m page (at + 1 + n) s) →
    (x : Scanned) → unless_ended (λ next. scanned n page (at + 1) next) x ≡ On s → unless_ended (λ next. scanned (n + m) page (at + 1) next) x ≡ scanned m page (at + 1 + n) s
by_next page n m at s go (On y) e = go y e
by_next page n m at s go (Before k o) e = absurd (let no : Before k o ≡ On s = e in (cc))

scanned_more : (page : List ℕ) (n m at : ℕ) (scan s : Scan) → scanned n page at scan ≡ On s → scanned (n + m) page at scan ≡ scanned m page (at + n) s
scanned_more page zero m at scan s e =
    let is : scan ≡ s = cc in
    let none : zero + m ≡ m = omega arith in
    let same : at ≡ at + zero = omega arith in
    ap (λ k. scanned k page at scan) none ∙ ap (λ k. scanned m page k scan) same ∙ ap (scanned m page (at + zero)) is
scanned_more page (suc n) m at scan s e =
    let sum : suc n + m ≡ suc (n + m) = omega arith in
    let place : at + 1 + n ≡ at + suc n = omega arith in
    ap (λ k. scanned k page at scan) sum
    ∙ by_next page n m at s (λ y q. scanned_more page n m (at + 1) y s q) (S.next_scan scan page at) e
    ∙ ap (λ k. scanned m page k s) place

pub read_on : (page : List ℕ) (start at n : ℕ) (scan next : Scan) → IsRead page start at scan → at + n ≤ length page → scanned n page at scan ≡ On next → IsRead page start (at + n) next
read_on page start at n scan next h l e =
    let order : start < at = h.order in
    let many : at + n - (start + 1) ≡ at - (start + 1) + n = omega arith in
    let there : start + 1 + (at - (start + 1)) ≡ at = omega arith in
    record {
      read = ap (λ k. scanned k page (start + 1) (S.first_scan page start mode.Data)) many
          ∙ scanned_more page (at - (start + 1)) n (start + 1) (S.first_scan page start mode.Data) scan h.read
          ∙ ap (λ k. scanned n page k scan) there ∙ e;
      order = omega arith;
      within = l;
    }

one_on : (page : List ℕ) (start at : ℕ) (scan next : Scan) → IsRead page start at scan → at < length page → S.next_scan scan page at ≡ On next → IsRead page start (at + 1) next
one_on page start at scan next h l e = read_on page start at 1 scan next h (omega arith) (ap (unless_ended (λ s. On s)) e)

-- bytes

not_return : (b : ℕ) → is_white_space (feed b) ≡ false → (b == 13) ≡ false
not_return b h = false_from_ne_true (b == 13) (λ y. true≢false (sym (ap (λ k. is_white_space (feed k)) (eqb-true b 13 y)) ∙ h))

not_feed : (b : ℕ) → is_white_space (feed b) ≡ false → (b == 10) ≡ false
not_feed b h = false_from_ne_true (b == 10) (λ y. true≢false (sym (ap (λ k. is_white_space (feed k)) (eqb-true b 10 y)) ∙ h))

as_it_is : (b : ℕ) → is_white_space (feed b) ≡ false → is_white_space b ≡ false
as_it_is b h = ap is_white_space (sym (feed_is b (not_return b h))) ∙ h

both_off : (v w : Bool) → w ≡ false → (v && w) ≡ false
both_off true w h = h
both_off false w h = refl

-- what a byte does where no word is read

wordless_turn : (c : Stage) (w : List ℕ) (b : ℕ) → has_word c ≡ false → M.turn c w b ≡ M.turn c [] b
wordless_turn (stage.TagName is_end) w b h = absurd (true≢false h)
wordless_turn (stage.RawEndTagName m) w b h = absurd (true≢false h)
wordless_turn stage.DoubleEscapeStart w b h = absurd (true≢false h)
wordless_turn stage.DoubleEscapeEnd w b h = absurd (true≢false h)
wordless_turn stage.Declaration w b h = absurd (true≢false h)
wordless_turn _ w b h = refl

module _ (page : List ℕ) (at : ℕ) where
  abbrev b : ℕ
  b = get_or page at 0

  -- a byte that isn't passed over
  turned : (scan : Scan) → has_word scan.stage ≡ false → (scan.after_return && (b == 10)) ≡ false →
      S.next_scan scan page at ≡ S.after_turn (M.turn scan.stage [] (feed b)) (b == 13) scan.word at
  turned scan v h =
      let w : List ℕ = between page scan.word at in
      ap (λ (x : Bool). if x then On (record { stage = scan.stage; after_return = b == 13; word = at + 1 }) else S.after_turn (M.turn scan.stage w (feed b)) (b == 13) scan.word at) h
      ∙ ap (λ t. S.after_turn t (b == 13) scan.word at) (wordless_turn scan.stage w (feed b) v)

  goes_to : (scan : Scan) (d : Stage) → has_word scan.stage ≡ false → (scan.after_return && (b == 10)) ≡ false → M.turn scan.stage [] (feed b) ≡ Goes d → has_word d ≡ false →
      S.next_scan scan page at ≡ On (record { stage = d; after_return = b == 13; word = at + 1 })
  goes_to scan d v h t w =
      turned scan v h ∙ ap (λ x. S.after_turn x (b == 13) scan.word at) t
      ∙ ap (λ (x : Bool). On (record { stage = d; after_return = b == 13; word = if x then scan.word else at + 1 })) w

  -- a line feed after a carriage return
  skipped : (scan : Scan) → (scan.after_return && (b == 10)) ≡ true → S.next_scan scan page at ≡ On (record { stage = scan.stage; after_return = b == 13; word = at + 1 })
  skipped scan h =
      let w : List ℕ = between page scan.word at in
      ap (λ (x : Bool). if x then On (record { stage = scan.stage; after_return = b == 13; word = at + 1 }) else S.after_turn (M.turn scan.stage w (feed b)) (b == 13) scan.word at) h

-- runs

record Leads (C : Stage → Type 0) (c : Stage) (b : ℕ) : Type 0 where
  next : Stage
  turns : M.turn c [] (feed b) ≡ Goes next
  stage : C next

record Ran (page : List ℕ) (at n : ℕ) (scan : Scan) (C : Stage → Type 0) (k : ℕ → Bool) : Type 0 where
  next : Scan
  on : scanned n page at scan ≡ On next
  stage : C next.stage
  back : k 13 ≡ false → scan.after_return ≡ false → next.after_return ≡ false

not_in : (k : ℕ → Bool) (b : ℕ) → k b ≡ true → k 13 ≡ false → (b == 13) ≡ false
not_in k b h n = false_from_ne_true (b == 13) (λ y. true≢false (sym h ∙ ap k (eqb-true b 13 y) ∙ n))

module _ (C : Stage → Type 0) (k : ℕ → Bool) (wordless : (c : Stage) → C c → has_word c ≡ false) (leads : (c : Stage) (b : ℕ) → C c → k b ≡ true → Leads C c b) (page : List ℕ) where
  ran_by : (at n : ℕ) (scan first : Scan) → S.next_scan scan page at ≡ On first → ((k 13 ≡ false) → first.after_return ≡ false) → Ran page (at + 1) n first C k → Ran page at (suc n) scan C k
  ran_by at n scan first e a r = record {
    next = r.next;
    on = ap (unless_ended (λ s. scanned n page (at + 1) s)) e ∙ r.on;
    stage = r.stage;
    back = λ p _. r.back p (a p);
  }

  run : (n at : ℕ) (scan : Scan) → C scan.stage → at + n ≤ length page → list_all k (take n (drop at page)) ≡ true → Ran page at n scan C k
  run zero at scan h l q = record { next = scan; on = refl; stage = h; back = λ _ r. r }
  run (suc n) at scan h l q =
      let inside : at < length page = omega arith in
      let c : ℕ = get_or page at 0 in
      let p = and_parts (k c) (list_all k (take n (drop (at + 1) page))) (sym (ap (λ s. list_all k (take (suc n) s)) (drop_more page at 0 inside)) ∙ q) in
      elim (cases_Bool (scan.after_return && (c == 10))) [
        | inl y ↦
            ran_by at n scan _ (skipped page at scan y) (λ z. not_in k c p.0 z)
            (run n (at + 1) (record { stage = scan.stage; after_return = c == 13; word = at + 1 }) h (omega arith) p.1)
        | inr y ↦
            let x = leads scan.stage c h p.0 in
            ran_by at n scan _ (goes_to page at scan x.next (wordless scan.stage h) y x.turns (wordless x.next x.stage)) (λ z. not_in k c p.0 z)
            (run n (at + 1) (record { stage = x.next; after_return = c == 13; word = at + 1 }) x.stage (omega arith) p.1)
      ]

-- where a key may begin

-- past a `/` and past a value in quotes a byte does the same
closing_same : (tag : Tag) (b : ℕ) → M.self_closing tag b ≡ M.before_key tag b
closing_same tag b = elim (cases_Bool (b == 62)) [
  | inl y ↦ subst (λ k. M.self_closing tag k ≡ M.before_key tag k) (sym (eqb-true b 62 y)) refl
  | inr n ↦ rw n refl
]

value_same : (tag : Tag) (b : ℕ) → M.after_value tag b ≡ M.before_key tag b
value_same tag b = elim (cases_Bool (is_white_space b)) [
  | inl y ↦ rw y refl
  | inr w ↦ elim (cases_Bool (b == 47)) [
    | inl y ↦ rw (w, y) refl
    | inr n ↦ elim (cases_Bool (b == 62)) [
      | inl y ↦ rw (w, n, y) refl
      | inr m ↦ rw (w, n, m) refl
    ]
  ]
]

before_wordless : (tag : Tag) (b : ℕ) (r : Bool) (u v at : ℕ) → S.after_turn (M.before_key tag b) r u at ≡ S.after_turn (M.before_key tag b) r v at
before_wordless tag b r u v at = elim (cases_Bool (is_white_space b)) [
  | inl y ↦ rw y refl
  | inr w ↦ elim (cases_Bool (b == 47)) [
    | inl y ↦ rw (w, y) refl
    | inr n ↦ elim (cases_Bool (b == 62)) [
      | inl y ↦ rw (w, n, y) refl
      | inr m ↦ rw (w, n, m) refl
    ]
  ]
]

-- a scan whose next byte does what it does where a key may begin
as_before : (page : List ℕ) (at : ℕ) (tag : Tag) (scan : Scan) → has_word scan.stage ≡ false → (scan.after_return && (get_or page at 0 == 10)) ≡ false →
    M.turn scan.stage [] (feed (get_or page at 0)) ≡ M.before_key tag (feed (get_or page at 0)) →
    S.next_scan scan page at ≡ S.next_scan (at_rest (stage.BeforeKey tag) at) page at
as_before page at tag scan v h t =
    let c : ℕ = get_or page at 0 in
    turned page at scan v h ∙ ap (λ x. S.after_turn x (c == 13) scan.word at) t
    ∙ before_wordless tag (feed c) (c == 13) scan.word at at
    ∙ sym (turned page at (at_rest (stage.BeforeKey tag) at) refl refl)

module _ (page : List ℕ) (start at : ℕ) (e : Bool) (h : IsInTag page start at e) (inside : at < length page) where
  abbrev c : ℕ
  c = get_or page at 0

  -- what a byte does that is no line feed
  stepped : (c == 10) ≡ false → S.next_scan h.scan page at ≡ S.after_turn (M.before_key h.tag (feed c)) (c == 13) at at
  stepped n = elim h.next [
    | inl s ↦
        turned page at h.scan (ap has_word s) (both_off h.scan.after_return (c == 10) n)
        ∙ ap (λ (x : Stage). S.after_turn (M.turn x [] (feed c)) (c == 13) h.scan.word at) s
        ∙ before_wordless h.tag (feed c) (c == 13) h.scan.word at at
    | inr s ↦ s inside ∙ turned page at (at_rest (stage.BeforeKey h.tag) at) refl refl
  ]

  -- white space
  pub space_on : is_white_space (feed c) ≡ true → IsInTag page start (at + 1) e
  space_on w =
      let to : Scan = record { stage = stage.BeforeKey h.tag; after_return = c == 13; word = at + 1 } in
      let goes : M.before_key h.tag (feed c) ≡ Goes (stage.BeforeKey h.tag) = rw w refl in
      let next : S.next_scan h.scan page at ≡ On to = (elim h.next [
        | inl s ↦ elim (cases_Bool (h.scan.after_return && (c == 10))) [
          | inl y ↦ skipped page at h.scan y ∙ ap (λ (x : Stage). On (record { stage = x; after_return = c == 13; word = at + 1 })) s
          | inr n ↦ goes_to page at h.scan (stage.BeforeKey h.tag) (ap has_word s) n (ap (λ (x : Stage). M.turn x [] (feed c)) s ∙ goes) refl
        ]
        | inr s ↦ s inside ∙ goes_to page at (at_rest (stage.BeforeKey h.tag) at) (stage.BeforeKey h.tag) refl refl goes refl
      ]) in
      record {
        tag = h.tag;
        ends = h.ends;
        plain = h.plain;
        scan = to;
        read = one_on page start at h.scan to h.read inside next;
        cut = refl;
        next = inl refl;
      }

  -- a `/`
  pub solidus_on : c ≡ 47 → IsInTag page start (at + 1) e
  solidus_on w =
      let to : Scan = record { stage = stage.SelfClosing h.tag; after_return = false; word = at + 1 } in
      let next : S.next_scan h.scan page at ≡ On to =
      stepped (ap (λ k. k == 10) w) ∙ ap (λ k. S.after_turn (M.before_key h.tag (feed k)) (k == 13) at at) w in
      record {
        tag = h.tag;
        ends = h.ends;
        plain = h.plain;
        scan = to;
        read = one_on page start at h.scan to h.read inside next;
        cut = refl;
        next = inr (λ _. as_before page (at + 1) h.tag to refl refl (closing_same h.tag (feed (get_or page (at + 1) 0))));
      }

  -- a `>`
  pub tag_ends : c ≡ 62 → (m : Mode) × (e ≡ true → m ≡ mode.Data) × IsFront page start mode.Data (record { kind = M.tag_kind e; end = at + 1; mode = m })
  tag_ends w =
      let to : Scan = record { stage = stage.Whole (M.tag_kind h.tag.is_end) h.tag.mode; after_return = false; word = at + 1 } in
      let next : S.next_scan h.scan page at ≡ On to =
      stepped (ap (λ k. k == 10) w) ∙ ap (λ k. S.after_turn (M.before_key h.tag (feed k)) (k == 13) at at) w in
      let here = one_on page start at h.scan to h.read inside next in
      let order : start < at + 1 = here.order in
      let s : IsScan page start mode.Data (at + 1) to = scanned_to page start mode.Data (start + 1) (at + 1) (S.first_scan page start mode.Data) to (scan_first page start mode.Data (omega arith)) (omega arith) (omega arith) here.read in (
        h.tag.mode,
        h.plain,
        subst (λ k. IsFront page start mode.Data (record { kind = M.tag_kind k; end = at + 1; mode = h.tag.mode })) h.ends
            (whole_end page start mode.Data h.tag.mode (M.tag_kind h.tag.is_end) (at + 1) to s refl refl (omega arith)),
      )

  -- the first byte of a key
  key_on : ends_name (feed c) ≡ false → IsRead page start (at + 1) (at_rest (stage.Key h.tag) (at + 1))
  key_on w =
      let p = ends (is_white_space (feed c)) (feed c == 47) (feed c == 62) w in
      let next : S.next_scan h.scan page at ≡ On (at_rest (stage.Key h.tag) (at + 1)) =
      stepped (not_feed c p.0)
      ∙ ap (λ x. S.after_turn x (c == 13) at at) (let goes : M.before_key h.tag (feed c) ≡ Goes (stage.Key h.tag) = rw (p.0, p.1, p.2) refl in goes)
      ∙ ap (λ v. On (record { stage = stage.Key h.tag; after_return = v; word = at + 1 })) (not_return c p.0) in
      one_on page start at h.scan (at_rest (stage.Key h.tag) (at + 1)) h.read inside next

-- the page ends in a tag
pub tag_is_cut : (page : List ℕ) (start : ℕ) (e : Bool) → IsInTag page start (length page) e → IsFront page start mode.Data (record { kind = kind.Nothing; end = length page; mode = mode.Data })
tag_is_cut page start e h =
    let order : start < length page = h.read.order in
    let s : IsScan page start mode.Data (length page) h.scan = scanned_to page start mode.Data (start + 1) (length page) (S.first_scan page start mode.Data) h.scan (scan_first page start mode.Data order) (omega arith) (omega arith) h.read.read in
    subst (λ k. IsFront page start mode.Data (record { kind = k; end = length page; mode = mode.Data })) h.cut (scan_end page start mode.Data mode.Data (length page) h.scan s refl)

-- keys

abbrev is_key_byte : ℕ → Bool
is_key_byte b = not (ends_name (feed b) || (b == 61))

module _ (page : List ℕ) (start at : ℕ) (e : Bool) where
  keyed_wordless : (tag : Tag) (c : Stage) → IsKeyed tag c → has_word c ≡ false
  keyed_wordless tag (stage.Key t) h = refl
  keyed_wordless tag (stage.AfterKey t) h = refl
  keyed_wordless tag _ h = absurd h

  keyed_cut : (tag : Tag) (c : Stage) → IsKeyed tag c → kind_at_end c ≡ kind.Nothing
  keyed_cut tag (stage.Key t) h = refl
  keyed_cut tag (stage.AfterKey t) h = refl
  keyed_cut tag _ h = absurd h

  in_key : (tag : Tag) (c : Stage) (b : ℕ) → c ≡ stage.Key tag → is_key_byte b ≡ true → Leads (λ d. d ≡ stage.Key tag) c b
  in_key tag c b h k =
      let p = or_parts (ends_name (feed b)) (b == 61) (not-true _ k) in
      let w = (ends (is_white_space (feed b)) (feed b == 47) (feed b == 62) p.0).0 in
      let same : feed b ≡ b = feed_is b (not_return b w) in
      record {
        next = stage.Key tag;
        turns = ap (λ (x : Stage). M.turn x [] (feed b)) h ∙ key_goes tag (feed b) p.0 (ap (λ x. x == 61) same ∙ p.1);
        stage = refl;
      }

  -- the rest of a key
  pub past_key : (n : ℕ) → IsInTag page start at e → at + 1 + n ≤ length page → ends_name (feed (get_or page at 0)) ≡ false →
      list_all is_key_byte (take n (drop (at + 1) page)) ≡ true → IsAfterKey page start (at + 1 + n) e
  past_key n h l first q =
      let r = run (λ c. c ≡ stage.Key h.tag) is_key_byte (λ c k. ap has_word k) (in_key h.tag) page n (at + 1) (at_rest (stage.Key h.tag) (at + 1)) refl l q in
      record {
        tag = h.tag;
        ends = h.ends;
        plain = h.plain;
        scan = r.next;
        read = read_on page start (at + 1) n (at_rest (stage.Key h.tag) (at + 1)) r.next (key_on page start at e h (omega arith) first) l r.on;
        stage = subst (IsKeyed h.tag) (sym r.stage) refl;
      }

  keyed_space : (tag : Tag) (c : Stage) (b : ℕ) → IsKeyed tag c → is_white_space (feed b) ≡ true → Leads (IsKeyed tag) c b
  keyed_space tag (stage.Key t) b h w = record { next = stage.AfterKey t; turns = rw w refl; stage = h }
  keyed_space tag (stage.AfterKey t) b h w = record { next = stage.AfterKey t; turns = rw w refl; stage = h }
  keyed_space tag _ b h w = absurd h

  -- white space after it
  pub past_key_space : (n : ℕ) → IsAfterKey page start at e → at + n ≤ length page → list_all (λ b. is_white_space (feed b)) (take n (drop at page)) ≡ true → IsAfterKey page start (at + n) e
  past_key_space n h l q =
      let r = run (IsKeyed h.tag) (λ b. is_white_space (feed b)) (keyed_wordless h.tag) (keyed_space h.tag) page n at h.scan h.stage l q in
      record {
        tag = h.tag;
        ends = h.ends;
        plain = h.plain;
        scan = r.next;
        read = read_on page start at n h.scan r.next h.read l r.on;
        stage = r.stage;
      }

  after_key_same : (tag : Tag) (b : ℕ) → is_white_space b ≡ false → (b == 61) ≡ false → M.after_key tag b ≡ M.before_key tag b
  after_key_same tag b w n = elim (cases_Bool (b == 47)) [
    | inl y ↦ rw (w, y) refl
    | inr m ↦ rw (w, m, n) refl
  ]

  key_same : (tag : Tag) (b : ℕ) → is_white_space b ≡ false → (b == 61) ≡ false → M.key tag b ≡ M.before_key tag b
  key_same tag b w n = elim (cases_Bool (b == 47)) [
    | inl y ↦ rw (w, y) refl
    | inr m ↦ elim (cases_Bool (b == 62)) [
      | inl y ↦ rw (w, m, n, y) refl
      | inr g ↦ rw (w, m, n, g) refl
    ]
  ]

  keyed_same : (tag : Tag) (c : Stage) (b : ℕ) → IsKeyed tag c → is_white_space b ≡ false → (b == 61) ≡ false → M.turn c [] b ≡ M.before_key tag b
  keyed_same tag (stage.Key t) b h w n = key_same t b w n ∙ ap (λ (x : Tag). M.before_key x b) h
  keyed_same tag (stage.AfterKey t) b h w n = after_key_same t b w n ∙ ap (λ (x : Tag). M.before_key x b) h
  keyed_same tag _ b h w n = absurd h

  -- no value
  pub no_value : IsAfterKey page start at e → (at < length page → (is_white_space (feed (get_or page at 0)) ≡ false) × ((get_or page at 0 == 61) ≡ false)) → IsInTag page start at e
  no_value h other =
      let c : ℕ = get_or page at 0 in
      record {
        tag = h.tag;
        ends = h.ends;
        plain = h.plain;
        scan = h.scan;
        read = h.read;
        cut = keyed_cut h.tag h.scan.stage h.stage;
        next = inr (λ inside.
            let p = other inside in
            let same : feed c ≡ c = feed_is c (not_return c p.0) in
            as_before page at h.tag h.scan (keyed_wordless h.tag h.scan.stage h.stage) (both_off h.scan.after_return (c == 10) (not_feed c p.0))
            (keyed_same h.tag h.scan.stage (feed c) h.stage p.0 (ap (λ x. x == 61) same ∙ p.1)));
      }

  keyed_equals : (tag : Tag) (c : Stage) → IsKeyed tag c → M.turn c [] 61 ≡ Goes (stage.BeforeValue tag)
  keyed_equals tag (stage.Key t) h = ap (λ (x : Tag). Goes (stage.BeforeValue x)) h
  keyed_equals tag (stage.AfterKey t) h = ap (λ (x : Tag). Goes (stage.BeforeValue x)) h
  keyed_equals tag _ h = absurd h

  -- an equals sign
  pub past_equals : IsAfterKey page start at e → at < length page → get_or page at 0 ≡ 61 → IsBeforeValue page start (at + 1) e
  past_equals h inside w =
      let to : Scan = record { stage = stage.BeforeValue h.tag; after_return = get_or page at 0 == 13; word = at + 1 } in
      record {
        tag = h.tag;
        ends = h.ends;
        plain = h.plain;
        scan = to;
        read = one_on page start at h.scan to h.read inside
            (goes_to page at h.scan (stage.BeforeValue h.tag) (keyed_wordless h.tag h.scan.stage h.stage) (both_off h.scan.after_return (get_or page at 0 == 10) (ap (λ x. x == 10) w))
            (ap (λ x. M.turn h.scan.stage [] (feed x)) w ∙ keyed_equals h.tag h.scan.stage h.stage) refl);
        stage = refl;
      }

  value_space : (tag : Tag) (c : Stage) (b : ℕ) → c ≡ stage.BeforeValue tag → is_white_space (feed b) ≡ true → Leads (λ d. d ≡ stage.BeforeValue tag) c b
  value_space tag c b h w = record {
    next = stage.BeforeValue tag;
    turns = ap (λ (x : Stage). M.turn x [] (feed b)) h ∙ (let goes : M.before_value tag (feed b) ≡ Goes (stage.BeforeValue tag) = rw w refl in goes);
    stage = refl;
  }

  -- white space before a value
  pub past_value_space : (n : ℕ) → IsBeforeValue page start at e → at + n ≤ length page → list_all (λ b. is_white_space (feed b)) (take n (drop at page)) ≡ true → IsBeforeValue page start (at + n) e
  past_value_space n h l q =
      let r = run (λ c. c ≡ stage.BeforeValue h.tag) (λ b. is_white_space (feed b)) (λ c k. ap has_word k) (value_space h.tag) page n at h.scan h.stage l q in
      record {
        tag = h.tag;
        ends = h.ends;
        plain = h.plain;
        scan = r.next;
        read = read_on page start at n h.scan r.next h.read l r.on;
        stage = r.stage;
      }

-- values

-- within a value, or in a reference in it
abbrev InValue : Quote → Tag → Stage → Type 0
InValue q tag (stage.Value p t) = (p ≡ q) × (t ≡ tag)
InValue q tag (stage.Reference (place.Value p t)) = (p ≡ q) × (t ≡ tag)
InValue q tag (stage.NamedReference (place.Value p t)) = (p ≡ q) × (t ≡ tag)
InValue q tag (stage.NumericReference (place.Value p t)) = (p ≡ q) × (t ≡ tag)
InValue q tag (stage.HexadecimalStart (place.Value p t)) = (p ≡ q) × (t ≡ tag)
InValue q tag (stage.DecimalStart (place.Value p t)) = (p ≡ q) × (t ≡ tag)
InValue q tag (stage.Hexadecimal (place.Value p t)) = (p ≡ q) × (t ≡ tag)
InValue q tag (stage.Decimal (place.Value p t)) = (p ≡ q) × (t ≡ tag)
InValue q tag _ = ⊥

abbrev InTurn : Quote → Tag → Turn → Type 0
InTurn q tag (Goes c) = InValue q tag c
InTurn q tag (Ends k m) = ⊥

-- what ends a value
abbrev ends_value : Quote → ℕ → Bool
ends_value quote.Double b = b == 34
ends_value quote.Single b = b == 39
ends_value quote.Absent b = is_white_space b || (b == 62)

in_wordless : (q : Quote) (tag : Tag) (c : Stage) → InValue q tag c → has_word c ≡ false
in_wordless q tag (stage.Value p t) h = refl
in_wordless q tag (stage.Reference (place.Value p t)) h = refl
in_wordless q tag (stage.NamedReference (place.Value p t)) h = refl
in_wordless q tag (stage.NumericReference (place.Value p t)) h = refl
in_wordless q tag (stage.HexadecimalStart (place.Value p t)) h = refl
in_wordless q tag (stage.DecimalStart (place.Value p t)) h = refl
in_wordless q tag (stage.Hexadecimal (place.Value p t)) h = refl
in_wordless q tag (stage.Decimal (place.Value p t)) h = refl
in_wordless q tag _ h = absurd h

in_cut : (q : Quote) (tag : Tag) (c : Stage) → InValue q tag c → kind_at_end c ≡ kind.Nothing
in_cut q tag (stage.Value p t) h = refl
in_cut q tag (stage.Reference (place.Value p t)) h = refl
in_cut q tag (stage.NamedReference (place.Value p t)) h = refl
in_cut q tag (stage.NumericReference (place.Value p t)) h = refl
in_cut q tag (stage.HexadecimalStart (place.Value p t)) h = refl
in_cut q tag (stage.DecimalStart (place.Value p t)) h = refl
in_cut q tag (stage.Hexadecimal (place.Value p t)) h = refl
in_cut q tag (stage.Decimal (place.Value p t)) h = refl
in_cut q tag _ h = absurd h

module _ (b : ℕ) where
  value_goes : (q p : Quote) (tag t : Tag) → (p ≡ q) × (t ≡ tag) → ends_value q b ≡ false → InTurn q tag (M.value p t b)
  value_goes q quote.Double tag t h n =
      let no : (b == 34) ≡ false = ap (λ x. ends_value x b) h.0 ∙ n in
      cond_both (b == 34) _ _ (InTurn q tag) (λ y. absurd (true≢false (sym y ∙ no))) (λ _. cond_both (b == 38) _ _ (InTurn q tag) (λ _. h) (λ _. h))
  value_goes q quote.Single tag t h n =
      let no : (b == 39) ≡ false = ap (λ x. ends_value x b) h.0 ∙ n in
      cond_both (b == 39) _ _ (InTurn q tag) (λ y. absurd (true≢false (sym y ∙ no))) (λ _. cond_both (b == 38) _ _ (InTurn q tag) (λ _. h) (λ _. h))
  value_goes q quote.Absent tag t h n =
      let no = or_parts (is_white_space b) (b == 62) (ap (λ x. ends_value x b) h.0 ∙ n) in
      cond_both (is_white_space b) _ _ (InTurn q tag) (λ y. absurd (true≢false (sym y ∙ no.0)))
      (λ _. cond_both (b == 38) _ _ (InTurn q tag) (λ _. h) (λ _. cond_both (b == 62) _ _ (InTurn q tag) (λ y. absurd (true≢false (sym y ∙ no.1))) (λ _. h)))

  module _ (q p : Quote) (tag t : Tag) (h : (p ≡ q) × (t ≡ tag)) (n : ends_value q b ≡ false) where
    number_goes : InTurn q tag (M.number_end (place.Value p t) b)
    number_goes = cond_both (b == 59) _ _ (InTurn q tag) (λ _. h) (λ _. value_goes q p tag t h n)

    decimal_goes : InTurn q tag (M.decimal_start (place.Value p t) b)
    decimal_goes = cond_both (is_ascii_digit b) _ _ (InTurn q tag) (λ _. h) (λ _. value_goes q p tag t h n)

  in_turn : (q : Quote) (tag : Tag) (c : Stage) → InValue q tag c → ends_value q b ≡ false → InTurn q tag (M.turn c [] b)
  in_turn q tag (stage.Value p t) h n = value_goes q p tag t h n
  in_turn q tag (stage.Reference (place.Value p t)) h n =
      cond_both (is_ascii_alphanumeric b) _ _ (InTurn q tag) (λ _. h) (λ _. cond_both (b == 35) _ _ (InTurn q tag) (λ _. h) (λ _. value_goes q p tag t h n))
  in_turn q tag (stage.NamedReference (place.Value p t)) h n =
      cond_both (is_ascii_alphanumeric b) _ _ (InTurn q tag) (λ _. h) (λ _. number_goes q p tag t h n)
  in_turn q tag (stage.NumericReference (place.Value p t)) h n =
      cond_both (to_ascii_lowercase b == 120) _ _ (InTurn q tag) (λ _. h) (λ _. decimal_goes q p tag t h n)
  in_turn q tag (stage.HexadecimalStart (place.Value p t)) h n =
      cond_both (is_ascii_hexdigit b) _ _ (InTurn q tag) (λ _. h) (λ _. value_goes q p tag t h n)
  in_turn q tag (stage.DecimalStart (place.Value p t)) h n = decimal_goes q p tag t h n
  in_turn q tag (stage.Hexadecimal (place.Value p t)) h n =
      cond_both (is_ascii_hexdigit b) _ _ (InTurn q tag) (λ _. h) (λ _. number_goes q p tag t h n)
  in_turn q tag (stage.Decimal (place.Value p t)) h n =
      cond_both (is_ascii_digit b) _ _ (InTurn q tag) (λ _. h) (λ _. number_goes q p tag t h n)
  in_turn q tag _ h n = absurd h

leads_by : (q : Quote) (tag : Tag) (c : Stage) (b : ℕ) (x : Turn) → M.turn c [] (feed b) ≡ x → InTurn q tag x → Leads (InValue q tag) c b
leads_by q tag c b (Goes d) e h = record { next = d; turns = e; stage = h }
leads_by q tag c b (Ends k m) e h = absurd h

in_leads : (q : Quote) (tag : Tag) (c : Stage) (b : ℕ) → InValue q tag c → not (ends_value q (feed b)) ≡ true → Leads (InValue q tag) c b
in_leads q tag c b h n = leads_by q tag c b (M.turn c [] (feed b)) refl (in_turn (feed b) q tag c h (not-true _ n))

module _ (page : List ℕ) (start at : ℕ) (e : Bool) (h : IsBeforeValue page start at e) where
  abbrev here : ℕ
  here = get_or page at 0

  -- a value in quotes, up to the quote or the end of the page
  quoted_from : (q : Quote) (tag_is : M.turn h.scan.stage [] (feed here) ≡ Goes (stage.Value q h.tag)) → at < length page → (here == 10) ≡ false → (n : ℕ) → at + 1 + n ≤ length page →
      list_all (λ b. not (ends_value q (feed b))) (take n (drop (at + 1) page)) ≡ true →
      (s : Scan) × IsRead page start (at + 1 + n) s × InValue q h.tag s.stage
  quoted_from q t inside nofeed n l all =
      let to : Scan = record { stage = stage.Value q h.tag; after_return = here == 13; word = at + 1 } in
      let one : IsRead page start (at + 1) to = one_on page start at h.scan to h.read inside (goes_to page at h.scan (stage.Value q h.tag) (ap has_word h.stage) (both_off h.scan.after_return (here == 10) nofeed) t refl) in
      let r = run (InValue q h.tag) (λ b. not (ends_value q (feed b))) (in_wordless q h.tag) (in_leads q h.tag) page n (at + 1) to (refl, refl) l all in
      (r.next, read_on page start (at + 1) n to r.next one l r.on, r.stage)

-- the end of a value in quotes
module _ (q : Quote) (end : ℕ) (plain : (end == 10) ≡ false) (page : List ℕ) (start at : ℕ) (e : Bool) (tag : Tag) (te : tag.is_end ≡ e) (tp : e ≡ true → tag.mode ≡ mode.Data) where
  quote_ends : (s : Scan) → IsRead page start at s → InValue q tag s.stage → M.turn s.stage [] (feed end) ≡ Goes (stage.AfterValue tag) → at < length page → get_or page at 0 ≡ end → (end == 13) ≡ false → IsInTag page start (at + 1) e
  quote_ends s h v t inside is back =
      let to : Scan = record { stage = stage.AfterValue tag; after_return = false; word = at + 1 } in
      let next : S.next_scan s page at ≡ On to =
      goes_to page at s (stage.AfterValue tag) (in_wordless q tag s.stage v) (both_off s.after_return (get_or page at 0 == 10) (ap (λ x. x == 10) is ∙ plain)) (ap (λ x. M.turn s.stage [] (feed x)) is ∙ t) refl
      ∙ ap (λ x. On (record { stage = stage.AfterValue tag; after_return = x; word = at + 1 })) (ap (λ x. x == 13) is ∙ back) in
      record {
        tag = tag;
        ends = te;
        plain = tp;
        scan = to;
        read = one_on page start at s to h inside next;
        cut = refl;
        next = inr (λ _. as_before page (at + 1) tag to refl refl (value_same tag (feed (get_or page (at + 1) 0))));
      }

  value_cut : (s : Scan) → IsRead page start at s → InValue q tag s.stage → at ≡ length page → IsInTag page start at e
  value_cut s h v last = record {
    tag = tag;
    ends = te;
    plain = tp;
    scan = s;
    read = h;
    cut = in_cut q tag s.stage v;
    next = inr (λ inside. absurd (omega (arith, last, inside)));
  }

-- a byte that is of no reference
record Leaves (b : ℕ) : Type 0 where
  word : is_ascii_alphanumeric b ≡ false
  digit : is_ascii_digit b ≡ false
  hexadecimal : is_ascii_hexdigit b ≡ false
  hash : (b == 35) ≡ false
  semicolon : (b == 59) ≡ false
  cross : (to_ascii_lowercase b == 120) ≡ false

value_is : (q p : Quote) (tag t : Tag) (b : ℕ) → (p ≡ q) × (t ≡ tag) → M.value p t b ≡ M.value q tag b
value_is q p tag t b h = ap (λ x. M.value x t b) h.0 ∙ ap (λ (x : Tag). M.value q x b) h.1

leaves : (q : Quote) (tag : Tag) (c : Stage) (b : ℕ) → InValue q tag c → Leaves b → M.turn c [] b ≡ M.value q tag b
leaves q tag (stage.Value p t) b h l = value_is q p tag t b h
leaves q tag (stage.Reference (place.Value p t)) b h l = rw (l.word, l.hash) (value_is q p tag t b h)
leaves q tag (stage.NamedReference (place.Value p t)) b h l = rw (l.word, l.semicolon) (value_is q p tag t b h)
leaves q tag (stage.NumericReference (place.Value p t)) b h l = rw (l.cross, l.digit) (value_is q p tag t b h)
leaves q tag (stage.HexadecimalStart (place.Value p t)) b h l = rw l.hexadecimal (value_is q p tag t b h)
leaves q tag (stage.DecimalStart (place.Value p t)) b h l = rw l.digit (value_is q p tag t b h)
leaves q tag (stage.Hexadecimal (place.Value p t)) b h l = rw (l.hexadecimal, l.semicolon) (value_is q p tag t b h)
leaves q tag (stage.Decimal (place.Value p t)) b h l = rw (l.digit, l.semicolon) (value_is q p tag t b h)
leaves q tag _ b h l = absurd h

space_leaves : (b : ℕ) → is_white_space b ≡ true → Leaves b
space_leaves b h = elim (or_cases ((b == 9) || (b == 10) || (b == 12)) (b == 32) h) [
  | inr y ↦ subst Leaves (sym (eqb-true b 32 y)) (record { word = refl; digit = refl; hexadecimal = refl; hash = refl; semicolon = refl; cross = refl })
  | inl x ↦ elim (or_cases ((b == 9) || (b == 10)) (b == 12) x) [
    | inr y ↦ subst Leaves (sym (eqb-true b 12 y)) (record { word = refl; digit = refl; hexadecimal = refl; hash = refl; semicolon = refl; cross = refl })
    | inl z ↦ elim (or_cases (b == 9) (b == 10) z) [
      | inl y ↦ subst Leaves (sym (eqb-true b 9 y)) (record { word = refl; digit = refl; hexadecimal = refl; hash = refl; semicolon = refl; cross = refl })
      | inr y ↦ subst Leaves (sym (eqb-true b 10 y)) (record { word = refl; digit = refl; hexadecimal = refl; hash = refl; semicolon = refl; cross = refl })
    ]
  ]
]

bare_leaves : (b : ℕ) → (is_white_space b || (b == 62)) ≡ true → Leaves b
bare_leaves b h = elim (or_cases (is_white_space b) (b == 62) h) [
  | inl y ↦ space_leaves b y
  | inr y ↦ subst Leaves (sym (eqb-true b 62 y)) (record { word = refl; digit = refl; hexadecimal = refl; hash = refl; semicolon = refl; cross = refl })
]

bare_same : (tag : Tag) (b : ℕ) → (is_white_space b || (b == 62)) ≡ true → M.bare_value tag b ≡ M.before_key tag b
bare_same tag b h = elim (or_cases (is_white_space b) (b == 62) h) [
  | inl y ↦ rw y refl
  | inr y ↦ subst (λ k. M.bare_value tag k ≡ M.before_key tag k) (sym (eqb-true b 62 y)) refl
]

abbrev is_bare_byte : ℕ → Bool
is_bare_byte b = not (is_white_space (feed b) || (b == 62))

-- a byte is no quote as it is read either
fed_all : (q : ℕ) → (10 == q) ≡ false → (13 == q) ≡ false → (s : List ℕ) → list_all (λ b. not (b == q)) s ≡ true → list_all (λ b. not (feed b == q)) s ≡ true
fed_all q p r [] h = refl
fed_all q p r (b ∷ s) h =
    let x = and_parts (not (b == q)) (list_all (λ c. not (c == q)) s) h in
    and_from (not (feed b == q)) (list_all (λ c. not (feed c == q)) s)
    (cond_both (b == 13) 10 b (λ c. not (c == q) ≡ true) (λ _. ap not p) (λ _. x.0))
    (fed_all q p r s x.1)

module _ (page : List ℕ) (start at n : ℕ) (e : Bool) (h : IsBeforeValue page start at e) where
  -- a value in double quotes, with both, or up to the end of the page
  pub past_double : at < length page → get_or page at 0 ≡ 34 → at + 1 + n < length page → list_all (λ b. not (b == 34)) (take n (drop (at + 1) page)) ≡ true → get_or page (at + 1 + n) 0 ≡ 34 →
      IsInTag page start (at + 1 + n + 1) e
  past_double inside q l all end =
      let r = quoted_from page start at e h quote.Double (ap (λ (x : Stage). M.turn x [] (feed (get_or page at 0))) h.stage ∙ ap (λ x. M.before_value h.tag (feed x)) q) inside (ap (λ x. x == 10) q) n (omega arith)
      (fed_all 34 refl refl (take n (drop (at + 1) page)) all) in
      quote_ends quote.Double 34 refl page start (at + 1 + n) e h.tag h.ends h.plain r.0 r.1 r.2 (leaves quote.Double h.tag r.0.stage 34 r.2 (record { word = refl; digit = refl; hexadecimal = refl; hash = refl; semicolon = refl; cross = refl })) l end refl

  pub cut_double : at < length page → get_or page at 0 ≡ 34 → at + 1 + n ≡ length page → list_all (λ b. not (b == 34)) (take n (drop (at + 1) page)) ≡ true → IsInTag page start (at + 1 + n) e
  cut_double inside q l all =
      let r = quoted_from page start at e h quote.Double (ap (λ (x : Stage). M.turn x [] (feed (get_or page at 0))) h.stage ∙ ap (λ x. M.before_value h.tag (feed x)) q) inside (ap (λ x. x == 10) q) n (omega (arith, l))
      (fed_all 34 refl refl (take n (drop (at + 1) page)) all) in
      value_cut quote.Double 34 refl page start (at + 1 + n) e h.tag h.ends h.plain r.0 r.1 r.2 l

  pub past_single : at < length page → get_or page at 0 ≡ 39 → at + 1 + n < length page → list_all (λ b. not (b == 39)) (take n (drop (at + 1) page)) ≡ true → get_or page (at + 1 + n) 0 ≡ 39 →
      IsInTag page start (at + 1 + n + 1) e
  past_single inside q l all end =
      let r = quoted_from page start at e h quote.Single (ap (λ (x : Stage). M.turn x [] (feed (get_or page at 0))) h.stage ∙ ap (λ x. M.before_value h.tag (feed x)) q) inside (ap (λ x. x == 10) q) n (omega arith)
      (fed_all 39 refl refl (take n (drop (at + 1) page)) all) in
      quote_ends quote.Single 39 refl page start (at + 1 + n) e h.tag h.ends h.plain r.0 r.1 r.2 (leaves quote.Single h.tag r.0.stage 39 r.2 (record { word = refl; digit = refl; hexadecimal = refl; hash = refl; semicolon = refl; cross = refl })) l end refl

  pub cut_single : at < length page → get_or page at 0 ≡ 39 → at + 1 + n ≡ length page → list_all (λ b. not (b == 39)) (take n (drop (at + 1) page)) ≡ true → IsInTag page start (at + 1 + n) e
  cut_single inside q l all =
      let r = quoted_from page start at e h quote.Single (ap (λ (x : Stage). M.turn x [] (feed (get_or page at 0))) h.stage ∙ ap (λ x. M.before_value h.tag (feed x)) q) inside (ap (λ x. x == 10) q) n (omega (arith, l))
      (fed_all 39 refl refl (take n (drop (at + 1) page)) all) in
      value_cut quote.Single 39 refl page start (at + 1 + n) e h.tag h.ends h.plain r.0 r.1 r.2 l

bare_first : (tag : Tag) (b : ℕ) → is_white_space b ≡ false → (b == 34) ≡ false → (b == 39) ≡ false → M.before_value tag b ≡ M.bare_value tag b
bare_first tag b w d s = elim (cases_Bool (b == 62)) [
  | inl y ↦ subst (λ k. M.before_value tag k ≡ M.bare_value tag k) (sym (eqb-true b 62 y)) refl
  | inr m ↦ rw (w, d, s, m) refl
]

fed_end : (b : ℕ) → (is_white_space (feed b) || (b == 62)) ≡ (is_white_space (feed b) || (feed b == 62))
fed_end b = elim (cases_Bool (b == 13)) [
  | inl y ↦ subst (λ k. (is_white_space (feed k) || (k == 62)) ≡ (is_white_space (feed k) || (feed k == 62))) (sym (eqb-true b 13 y)) refl
  | inr n ↦ ap (λ k. is_white_space (feed b) || (k == 62)) (sym (feed_is b n))
]

bare_all : (s : List ℕ) → list_all is_bare_byte s ≡ true → list_all (λ b. not (ends_value quote.Absent (feed b))) s ≡ true
bare_all [] h = refl
bare_all (b ∷ s) h =
    let x = and_parts (is_bare_byte b) (list_all is_bare_byte s) h in
    and_from (not (ends_value quote.Absent (feed b))) (list_all (λ c. not (ends_value quote.Absent (feed c))) s) (ap not (sym (fed_end b)) ∙ x.0) (bare_all s x.1)

off_by : (v w : Bool) → v ≡ false → (v && w) ≡ false
off_by v w h = ap (λ x. x && w) h

module _ (page : List ℕ) (start at : ℕ) (e : Bool) (h : IsBeforeValue page start at e) where
  abbrev own : ℕ
  own = get_or page at 0

  abbrev NotQuoted : Type 0
  NotQuoted = at < length page → (is_white_space (feed own) ≡ false) × ((own == 34) ≡ false) × ((own == 39) ≡ false)

  abbrev AfterBare : ℕ → Type 0
  AfterBare place = place < length page → is_bare_byte (get_or page place 0) ≡ false

  bare_none : at ≤ length page → NotQuoted → AfterBare at → IsInTag page start at e
  bare_none l first stop = record {
    tag = h.tag;
    ends = h.ends;
    plain = h.plain;
    scan = h.scan;
    read = h.read;
    cut = ap kind_at_end h.stage;
    next = inr (λ inside.
        let p = first inside in
        let greater : (own == 62) ≡ true = elim (or_cases (is_white_space (feed own)) (own == 62) (not-false _ (stop inside))) [
          | inl y ↦ absurd (true≢false (sym y ∙ p.0))
          | inr y ↦ y
        ] in
        let is : own ≡ 62 = eqb-true own 62 greater in
        as_before page at h.tag h.scan (ap has_word h.stage) (both_off h.scan.after_return (own == 10) (ap (λ x. x == 10) is))
        (ap (λ (x : Stage). M.turn x [] (feed own)) h.stage ∙ ap (λ x. M.before_value h.tag (feed x)) is ∙ sym (ap (λ x. M.before_key h.tag (feed x)) is)));
  }

  bare_some : (m : ℕ) → at + suc m ≤ length page → NotQuoted → list_all is_bare_byte (take (suc m) (drop at page)) ≡ true → AfterBare (at + suc m) → IsInTag page start (at + suc m) e
  bare_some m l first all stop =
      let inside : at < length page = omega arith in
      let p = first inside in
      let x = and_parts (is_bare_byte own) (list_all is_bare_byte (take m (drop (at + 1) page))) (sym (ap (λ s. list_all is_bare_byte (take (suc m) s)) (drop_more page at 0 inside)) ∙ all) in
      let back : (own == 13) ≡ false = not_return own p.0 in
      let same : feed own ≡ own = feed_is own back in
      let free : ends_value quote.Absent (feed own) ≡ false = sym (fed_end own) ∙ not-true _ x.0 in
      let turn : M.turn h.scan.stage [] (feed own) ≡ M.bare_value h.tag (feed own) =
      ap (λ (x : Stage). M.turn x [] (feed own)) h.stage
      ∙ bare_first h.tag (feed own) p.0 (ap (λ x. x == 34) same ∙ p.1) (ap (λ x. x == 39) same ∙ p.2) in
      let d = leads_by quote.Absent h.tag h.scan.stage own (M.bare_value h.tag (feed own)) turn (value_goes (feed own) quote.Absent quote.Absent h.tag h.tag (refl, refl) free) in
      let to : Scan = record { stage = d.next; after_return = own == 13; word = at + 1 } in
      let one : IsRead page start (at + 1) to =
      one_on page start at h.scan to h.read inside (goes_to page at h.scan d.next (ap has_word h.stage) (both_off h.scan.after_return (own == 10) (not_feed own p.0)) d.turns (in_wordless quote.Absent h.tag d.next d.stage)) in
      let r = run (InValue quote.Absent h.tag) (λ b. not (ends_value quote.Absent (feed b))) (in_wordless quote.Absent h.tag) (in_leads quote.Absent h.tag) page m (at + 1) to d.stage (omega (arith, l))
      (bare_all (take m (drop (at + 1) page)) x.1) in
      let sum : at + 1 + m ≡ at + suc m = omega arith in
      record {
        tag = h.tag;
        ends = h.ends;
        plain = h.plain;
        scan = r.next;
        read = subst (λ k. IsRead page start k r.next) sum (read_on page start (at + 1) m to r.next one (omega (arith, l)) r.on);
        cut = in_cut quote.Absent h.tag r.next.stage r.stage;
        next = inr (λ within.
            let c : ℕ = get_or page (at + suc m) 0 in
            let end : (is_white_space (feed c) || (feed c == 62)) ≡ true = sym (fed_end c) ∙ not-false _ (stop within) in
            as_before page (at + suc m) h.tag r.next (in_wordless quote.Absent h.tag r.next.stage r.stage) (off_by r.next.after_return (c == 10) (r.back refl back))
            (leaves quote.Absent h.tag r.next.stage (feed c) r.stage (bare_leaves (feed c) end) ∙ bare_same h.tag (feed c) end));
      }

  -- a value without quotes, which may be empty
  pub past_bare : (n : ℕ) → at + n ≤ length page → NotQuoted → list_all is_bare_byte (take n (drop at page)) ≡ true → AfterBare (at + n) → IsInTag page start (at + n) e
  past_bare zero l first all stop =
      let same : at ≡ at + zero = omega arith in
      subst (λ k. IsInTag page start k e) same (bare_none (omega (arith, l)) first (subst AfterBare (sym same) stop))
  past_bare (suc m) l first all stop = bare_some m l first all stop

-- names

name_same : (is_end : Bool) (w : List ℕ) (b : ℕ) (r : Bool) (u v at : ℕ) → ends_name b ≡ true → S.after_turn (M.tag_name is_end w b) r u at ≡ S.after_turn (M.before_key (M.named_tag is_end w) b) r v at
name_same is_end w b r u v at h = elim (cases_Bool (is_white_space b)) [
  | inl y ↦ rw y refl
  | inr x ↦ elim (cases_Bool (b == 47)) [
    | inl y ↦ rw (x, y) refl
    | inr n ↦ elim (cases_Bool (b == 62)) [
      | inl y ↦ rw (x, n, y) refl
      | inr m ↦ absurd (true≢false (sym h ∙ or_from (is_white_space b || (b == 47)) (b == 62) (or_from (is_white_space b) (b == 47) x n) m))
    ]
  ]
]

name_plain : (is_end : Bool) (w : List ℕ) → is_end ≡ true → (M.named_tag is_end w).mode ≡ mode.Data
name_plain true w h = refl
name_plain false w h = absurd (true≢false (sym h))

name_is_end : (is_end : Bool) (w : List ℕ) → (M.named_tag is_end w).is_end ≡ is_end
name_is_end true w = refl
name_is_end false w = refl

abbrev is_name_byte : ℕ → Bool
is_name_byte b = not (ends_name (feed b))

name_goes : (is_end : Bool) (w : List ℕ) (b : ℕ) → is_name_byte b ≡ true → M.tag_name is_end w (feed b) ≡ Goes (stage.TagName is_end)
name_goes is_end w b h =
    let p = ends (is_white_space (feed b)) (feed b == 47) (feed b == 62) (not-true _ h) in
    rw (p.0, p.1, p.2) refl

name_run : (page : List ℕ) (is_end : Bool) (word : ℕ) (n at : ℕ) → at + n ≤ length page → list_all is_name_byte (take n (drop at page)) ≡ true →
    scanned n page at (record { stage = stage.TagName is_end; after_return = false; word = word }) ≡ On (record { stage = stage.TagName is_end; after_return = false; word = word })
name_run page is_end word zero at l q = refl
name_run page is_end word (suc n) at l q =
    let inside : at < length page = omega arith in
    let c : ℕ = get_or page at 0 in
    let p = and_parts (is_name_byte c) (list_all is_name_byte (take n (drop (at + 1) page))) (sym (ap (λ s. list_all is_name_byte (take (suc n) s)) (drop_more page at 0 inside)) ∙ q) in
    let white = (ends (is_white_space (feed c)) (feed c == 47) (feed c == 62) (not-true _ p.0)).0 in
    ap (unless_ended (λ s. scanned n page (at + 1) s))
    (ap (λ x. S.after_turn x (c == 13) word at) (name_goes is_end (between page word at) c p.0)
    ∙ ap (λ x. On (record { stage = stage.TagName is_end; after_return = x; word = word })) (not_return c white))
    ∙ name_run page is_end word n (at + 1) (omega arith) p.1

module _ (page : List ℕ) (start word : ℕ) (e : Bool) where
  name_read : (first n : ℕ) → IsRead page start first (record { stage = stage.TagName e; after_return = false; word = word }) → first + n ≤ length page → list_all is_name_byte (take n (drop first page)) ≡ true →
      (first + n < length page → is_name_byte (get_or page (first + n) 0) ≡ false) → IsInTag page start (first + n) e
  name_read first n h l all stop =
      let at : ℕ = first + n in
      let c : ℕ = get_or page at 0 in
      let w : List ℕ = between page word at in
      let to : Scan = record { stage = stage.TagName e; after_return = false; word = word } in
      record {
        tag = M.named_tag e w;
        ends = name_is_end e w;
        plain = name_plain e w;
        scan = to;
        read = read_on page start first n to to h l (name_run page e word n first l all);
        cut = refl;
        next = inr (λ inside.
            name_same e w (feed c) (c == 13) word at at (not-false _ (stop inside)) ∙ sym (turned page at (at_rest (stage.BeforeKey (M.named_tag e w)) at) refl refl));
      }

-- from the `<` to the end of the name
pub start_tag_named : (page : List ℕ) (start n : ℕ) → get_or page start 0 ≡ 60 → is_ascii_alphabetic (get_or page (start + 1) 0) ≡ true → start + 1 + 1 + n ≤ length page →
    list_all is_name_byte (take n (drop (start + 1 + 1) page)) ≡ true → (start + 1 + 1 + n < length page → is_name_byte (get_or page (start + 1 + 1 + n) 0) ≡ false) → IsInTag page start (start + 1 + 1 + n) false
start_tag_named page start n less letter l all stop =
    name_read page start (start + 1) false (start + 1 + 1) n (record { read = start_name page start less letter; order = omega arith; within = omega (arith, l) }) l all stop

pub end_tag_named : (page : List ℕ) (start n : ℕ) → get_or page start 0 ≡ 60 → get_or page (start + 1) 0 ≡ 47 → is_ascii_alphabetic (get_or page (start + 1 + 1) 0) ≡ true → start + 1 + 2 + n ≤ length page →
    list_all is_name_byte (take n (drop (start + 1 + 2) page)) ≡ true → (start + 1 + 2 + n < length page → is_name_byte (get_or page (start + 1 + 2 + n) 0) ≡ false) → IsInTag page start (start + 1 + 2 + n) true
end_tag_named page start n less slash letter l all stop =
    name_read page start (start + 1 + 1) true (start + 1 + 2) n (record { read = end_name page start less slash letter; order = omega arith; within = omega (arith, l) }) l all stop
