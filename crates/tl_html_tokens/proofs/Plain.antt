-- A text up to the next `<` is one piece, where characters are joined.
use Rattle.std.proofs.Common.{◌≡◌, ◌≤◌, ◌<◌, ◌⊎◌, ℕ, zero, suc, ◌+◌, ◌-◌, Bool, true, false, not, ◌==◌, ◌||◌, ◌&&◌, List, [], ◌∷◌, ◌++◌, length, length-drop, take, drop, get_or, refl, ap, sym, subst, subst₂, ◌∙◌, inl, inr, true≢false, arith, le_refl, if◌then◌else◌}
use Rattle.std.specs.Char.{is_ascii_alphanumeric, is_ascii_digit, is_ascii_hexdigit, to_ascii_lowercase}
use Rattle.std.specs.List.{list_all}
use Rattle.std.proofs.lemmas.Bool.{and_from, and_parts, cases_Bool, cond_both, eqb-false, eqb-true}
use Rattle.std.proofs.lemmas.List.{drop_more, get_or-drop}
use Rattle.tl_html_spec.specs.Reader.{at, feed}
use Rattle.tl_html_tokens.specs.Ends.{OpensAtMostFirst, opens}
use Rattle.tl_html_tokens.specs.Fronts.{IsFront}
use Rattle.tl_html_tokens.specs.Modes.{state_of}
use Rattle.tl_html_tokens.specs.Inner.Machine as M
use Rattle.tl_html_tokens.specs.Inner.Runs.{is_plain, reads_plain}
use Rattle.tl_html_tokens.specs.Inner.Scans as S
use Rattle.tl_html_tokens.specs.Inner.Stages.{has_word, kind_at_end}
use Rattle.tl_html_tokens.specs.declared.front.Scan.{Scan}
use Rattle.tl_html_tokens.specs.declared.front.Scanned.TheVariants.{On, Before}
use Rattle.tl_html_tokens.specs.declared.mode.Mode.{Mode}
use Rattle.tl_html_tokens.specs.declared.mode.Mode.TheVariants as mode
use Rattle.tl_html_tokens.specs.declared.stage.Place.TheVariants as place
use Rattle.tl_html_tokens.specs.declared.stage.Stage.{Stage}
use Rattle.tl_html_tokens.specs.declared.stage.Stage.TheVariants as stage
use Rattle.tl_html_tokens.specs.declared.stage.TokenKind.{TokenKind}
use Rattle.tl_html_tokens.specs.declared.stage.TokenKind.TheVariants as kind
use Rattle.tl_html_tokens.specs.declared.stage.Turn.{Turn}
use Rattle.tl_html_tokens.specs.declared.stage.Turn.TheVariants.{Goes, Ends}
use Rattle.tl_html_tokens.proofs.Ending.{scan_end}
use Rattle.tl_html_tokens.proofs.Places.{between, cut}
use Rattle.tl_html_tokens.proofs.Reading.{Follows, IsScan, scan_first, scan_next}
use Rattle.tl_html_tokens.proofs.Together.{fronts_join}

pub fails_not : (t : Bool) → ¬ (t ≡ true) → t ≡ false
fails_not true never = absurd (never refl)
fails_not false never = refl

-- the bytes before a place fail a test
pub all_before : (test : ℕ → Bool) (s : List ℕ) (k : ℕ) → k ≤ length s → ((j : ℕ) → j < k → test (get_or s j 0) ≡ false) → list_all (λ b. not (test b)) (take k s) ≡ true
all_before test s zero h fails = refl
all_before test [] (suc k) h fails = absurd (omega arith)
all_before test (b ∷ s) (suc k) h fails =
    and_from (not (test b)) (list_all (λ c. not (test c)) (take k s)) (ap not (fails 0 (omega arith))) (all_before test s k (omega arith) (λ j l. fails (suc j) (omega arith)))

-- of three tests none passes
pub three : (x y z : Bool) → not (x || y || z) ≡ true → (x ≡ false) × (y ≡ false) × (z ≡ false)
three true y z h = absurd (true≢false (sym h))
three false true z h = absurd (true≢false (sym h))
three false false true h = absurd (true≢false (sym h))
three false false false h = (refl, refl, refl)

-- stages in a text

abbrev TextStage : Mode → Stage → Type 0
TextStage m (stage.Whole kind.Text n) = n ≡ m
TextStage m (stage.Reference (place.Text n)) = n ≡ m
TextStage m (stage.NamedReference (place.Text n)) = n ≡ m
TextStage m (stage.NumericReference (place.Text n)) = n ≡ m
TextStage m (stage.HexadecimalStart (place.Text n)) = n ≡ m
TextStage m (stage.DecimalStart (place.Text n)) = n ≡ m
TextStage m (stage.Hexadecimal (place.Text n)) = n ≡ m
TextStage m (stage.Decimal (place.Text n)) = n ≡ m
TextStage m _ = ⊥

abbrev TextTurn : Mode → Turn → Type 0
TextTurn m (Goes c) = TextStage m c
TextTurn m (Ends k n) = (k ≡ kind.Text) × (n ≡ m)

number_ends : (m n : Mode) (b : ℕ) → n ≡ m → TextTurn m (M.number_end (place.Text n) b)
number_ends m n b h = cond_both (b == 59) _ _ (TextTurn m) (λ _. h) (λ _. (refl, h))

decimal_starts : (m n : Mode) (b : ℕ) → n ≡ m → TextTurn m (M.decimal_start (place.Text n) b)
decimal_starts m n b h = cond_both (is_ascii_digit b) _ _ (TextTurn m) (λ _. h) (λ _. (refl, h))

-- a byte leads to another one, or ends the piece
text_turn : (m : Mode) (c : Stage) (w : List ℕ) (b : ℕ) → TextStage m c → TextTurn m (M.turn c w b)
text_turn m (stage.Whole kind.Text n) w b h = (refl, h)
text_turn m (stage.Reference (place.Text n)) w b h =
    cond_both (is_ascii_alphanumeric b) _ _ (TextTurn m) (λ _. h) (λ _. cond_both (b == 35) _ _ (TextTurn m) (λ _. h) (λ _. (refl, h)))
text_turn m (stage.NamedReference (place.Text n)) w b h = cond_both (is_ascii_alphanumeric b) _ _ (TextTurn m) (λ _. h) (λ _. number_ends m n b h)
text_turn m (stage.NumericReference (place.Text n)) w b h = cond_both (to_ascii_lowercase b == 120) _ _ (TextTurn m) (λ _. h) (λ _. decimal_starts m n b h)
text_turn m (stage.HexadecimalStart (place.Text n)) w b h = cond_both (is_ascii_hexdigit b) _ _ (TextTurn m) (λ _. h) (λ _. (refl, h))
text_turn m (stage.DecimalStart (place.Text n)) w b h = decimal_starts m n b h
text_turn m (stage.Hexadecimal (place.Text n)) w b h = cond_both (is_ascii_hexdigit b) _ _ (TextTurn m) (λ _. h) (λ _. number_ends m n b h)
text_turn m (stage.Decimal (place.Text n)) w b h = cond_both (is_ascii_digit b) _ _ (TextTurn m) (λ _. h) (λ _. number_ends m n b h)
text_turn m _ w b h = absurd h

-- a `<` ends it
less_turn : (m : Mode) (c : Stage) (w : List ℕ) → TextStage m c → M.turn c w 60 ≡ Ends kind.Text m
less_turn m (stage.Whole kind.Text n) w h = ap (Ends kind.Text) h
less_turn m (stage.Reference (place.Text n)) w h = ap (Ends kind.Text) h
less_turn m (stage.NamedReference (place.Text n)) w h = ap (Ends kind.Text) h
less_turn m (stage.NumericReference (place.Text n)) w h = ap (Ends kind.Text) h
less_turn m (stage.HexadecimalStart (place.Text n)) w h = ap (Ends kind.Text) h
less_turn m (stage.DecimalStart (place.Text n)) w h = ap (Ends kind.Text) h
less_turn m (stage.Hexadecimal (place.Text n)) w h = ap (Ends kind.Text) h
less_turn m (stage.Decimal (place.Text n)) w h = ap (Ends kind.Text) h
less_turn m _ w h = absurd h

-- and so does the end of the page
text_end : (m : Mode) (c : Stage) → TextStage m c → kind_at_end c ≡ kind.Text
text_end m (stage.Whole kind.Text n) h = refl
text_end m (stage.Reference (place.Text n)) h = refl
text_end m (stage.NamedReference (place.Text n)) h = refl
text_end m (stage.NumericReference (place.Text n)) h = refl
text_end m (stage.HexadecimalStart (place.Text n)) h = refl
text_end m (stage.DecimalStart (place.Text n)) h = refl
text_end m (stage.Hexadecimal (place.Text n)) h = refl
text_end m (stage.Decimal (place.Text n)) h = refl
text_end m _ h = absurd h

rcdata_first : (m : Mode) (b : ℕ) → (b == 60) ≡ false → TextStage m (M.in_rcdata m b)
rcdata_first m b h = cond_both (b == 38) _ _ (TextStage m) (λ _. refl) (λ _. cond_both (b == 60) _ _ (TextStage m) (λ y. absurd (true≢false (sym y ∙ h))) (λ _. refl))

rawtext_first : (m : Mode) (b : ℕ) → (b == 60) ≡ false → TextStage m (M.in_rawtext m b)
rawtext_first m b h = cond_both (b == 60) _ _ (TextStage m) (λ y. absurd (true≢false (sym y ∙ h))) (λ _. refl)

text_first : (m : Mode) (b : ℕ) → reads_plain m ≡ true → (b == 60) ≡ false → TextStage m (M.first m b)
text_first mode.Data b r h = cond_both (b == 38) _ _ (TextStage mode.Data) (λ _. refl) (λ _. cond_both (b == 60) _ _ (TextStage mode.Data) (λ y. absurd (true≢false (sym y ∙ h))) (λ _. refl))
text_first mode.Title b r h = rcdata_first mode.Title b h
text_first mode.Textarea b r h = rcdata_first mode.Textarea b h
text_first mode.ContextText b r h = rcdata_first mode.ContextText b h
text_first mode.Style b r h = rawtext_first mode.Style b h
text_first mode.Xmp b r h = rawtext_first mode.Xmp b h
text_first mode.Iframe b r h = rawtext_first mode.Iframe b h
text_first mode.Noembed b r h = rawtext_first mode.Noembed b h
text_first mode.Noframes b r h = rawtext_first mode.Noframes b h
text_first mode.Noscript b r h = rawtext_first mode.Noscript b h
text_first mode.Script b r h = rawtext_first mode.Script b h
text_first mode.Plaintext b r h = refl
text_first mode.ScriptEscaped b r h = absurd (true≢false (sym r))
text_first mode.ScriptEscapedDash b r h = absurd (true≢false (sym r))
text_first mode.ScriptEscapedDashDash b r h = absurd (true≢false (sym r))

fed_plain : (b : ℕ) → (b == 60) ≡ false → (feed b == 60) ≡ false
fed_plain b h = cond_both (b == 13) 10 b (λ x. (x == 60) ≡ false) (λ _. refl) (λ _. h)

-- a text

-- no `<` stands between two places
abbrev NoLess : List ℕ → ℕ → ℕ → Type 0
NoLess page start end = (j : ℕ) → start ≤ j → j < end → (get_or page j 0 == 60) ≡ false

-- a text ends there: a `<` follows, or nothing
abbrev EndsText : List ℕ → ℕ → Type 0
EndsText page end = (end ≡ length page) ⊎ ((end < length page) × (get_or page end 0 ≡ 60))

module _ (page : List ℕ) (m : Mode) (end : ℕ) (stop : EndsText page end) where
  abbrev Text : ℕ → ℕ → Type 0
  Text start e = IsFront page start m (record { kind = kind.Text; end = e; mode = m })

  -- a part of it is a piece
  record Part (start : ℕ) : Type 0 where
    to : ℕ
    within : to ≤ end
    front : Text start to

  inside : end ≤ length page
  inside = elim stop [
    | inl e ↦ omega arith
    | inr p ↦ (let q = p.0 in omega arith)
  ]

  ends_before : (start : ℕ) (scan : Scan) → IsScan page start m end scan → TextStage m scan.stage → end < length page → get_or page end 0 ≡ 60 → Text start end
  ends_before start scan h t l e =
      let w : List ℕ = between page scan.word end in
      let on : Scan = record { stage = scan.stage; after_return = false; word = end + 1 } in
      let at_less : S.next_scan scan page end ≡ (if scan.after_return && false then On on else S.after_turn (M.turn scan.stage w 60) false scan.word end) =
      ap (λ b. if scan.after_return && (b == 10) then On (record { stage = scan.stage; after_return = b == 13; word = end + 1 }) else S.after_turn (M.turn scan.stage w (feed b)) (b == 13) scan.word end) e in
      let is : S.next_scan scan page end ≡ Before kind.Text m =
      at_less ∙ cond_both (scan.after_return && false) _ _ (λ x. x ≡ Before kind.Text m) (λ y. absurd (never scan.after_return y)) (λ _. ap (λ u. S.after_turn u false scan.word end) (less_turn m scan.stage w t)) in
      subst (Follows page start m end) is (scan_next page start m end scan h l)
    where
      never : (v : Bool) → (v && false) ≡ true → ⊥
      never true y = true≢false (sym y)
      never false y = true≢false (sym y)

  part_at_end : (start : ℕ) (scan : Scan) → IsScan page start m end scan → TextStage m scan.stage → Part start
  part_at_end start scan h t = elim stop [
    | inl e ↦ record {
      to = end;
      within = le_refl end;
      front = subst₂ (λ (k : TokenKind) n. IsFront page start m (record { kind = k; end = n; mode = m })) (text_end m scan.stage t) (sym e) (scan_end page start m m end scan h e);
    }
    | inr p ↦ record { to = end; within = le_refl end; front = ends_before start scan h t p.0 p.1 }
  ]

  by_turn : (start place : ℕ) (scan : Scan) (u : Turn) → place < end → TextTurn m u → Follows page start m place (S.after_turn u (get_or page place 0 == 13) scan.word place) →
      ((next : Scan) → IsScan page start m (place + 1) next → TextStage m next.stage → Part start) → Part start
  by_turn start place scan (Goes c) l v f more =
      more (record { stage = c; after_return = get_or page place 0 == 13; word = if has_word c then scan.word else place + 1 }) f v
  by_turn start place scan (Ends j n) l v f more = record {
    to = place;
    within = omega arith;
    front = subst₂ (λ (i : TokenKind) (o : Mode). IsFront page start m (record { kind = i; end = place; mode = o })) v.0 v.1 f;
  }

  part_from : (start k place : ℕ) (scan : Scan) → place + k ≡ end → IsScan page start m place scan → TextStage m scan.stage → Part start
  part_from start zero place scan e h t =
      let here : place ≡ end = omega arith in
      part_at_end start scan (subst (λ p. IsScan page start m p scan) here h) t
  part_from start (suc k) place scan e h t =
      let l = inside in
      let b : ℕ = get_or page place 0 in
      let w : List ℕ = between page scan.word place in
      let more : (next : Scan) → IsScan page start m (place + 1) next → TextStage m next.stage → Part start =
      (λ next i u. part_from start k (place + 1) next (omega arith) i u) in
      cond_both (scan.after_return && (b == 10)) _ _ (λ x. Follows page start m place x → Part start)
      (λ _ f. more (record { stage = scan.stage; after_return = b == 13; word = place + 1 }) f t)
      (λ _ f. by_turn start place scan (M.turn scan.stage w (feed b)) (omega arith) (text_turn m scan.stage w (feed b) t) f more)
      (scan_next page start m place scan h (omega arith))

  part : (start : ℕ) → start < end → reads_plain m ≡ true → (get_or page start 0 == 60) ≡ false → Part start
  part start l r h =
      let q = inside in
      part_from start (end - (start + 1)) (start + 1) (S.first_scan page start m) (omega arith) (scan_first page start m (omega arith))
      (text_first m (feed (get_or page start 0)) r (fed_plain (get_or page start 0) h))

  no_section : (start e : ℕ) → start < e → e ≤ end → (get_or page start 0 == 60) ≡ false → OpensAtMostFirst (state_of m) (between page start e) → opens (at (state_of m)) (between page start e) ≡ false
  no_section start e l k h (inl z) = z
  no_section start e l k h (inr q) =
      let i = inside in
      let all : 60 ∷ 33 ∷ 91 ∷ q.0 ++ drop e page ≡ get_or page start 0 ∷ drop (start + 1) page =
      ap (λ v. v ++ drop e page) (sym q.2) ∙ cut page start e (omega arith) ∙ drop_more page start 0 (omega arith) in
      let first : 60 ≡ get_or page start 0 = cc in
      absurd (true≢false (ap (λ b. b == 60) first ∙ h))

  text_from : (n start : ℕ) → end - start ≤ n → start < end → reads_plain m ≡ true → NoLess page start end → Text start end
  text_from zero start k l r h = absurd (omega arith)
  text_from (suc n) start k l r h =
      let first = h start (le_refl start) l in
      let p = part start l r first in
      let o = (p.front).order in
      elim (cases_Bool (p.to == end)) [
        | inl y ↦ subst (Text start) (eqb-true p.to end y) p.front
        | inr y ↦ (
            let less : p.to < end = let w = p.within in omega (arith, eqb-false p.to end y) in
            let more = text_from n p.to (omega arith) less r (λ j a b. h j (omega arith) b) in
            fronts_join page start m m m p.to end p.front more
            (no_section start p.to o p.within first (p.front).stands.opens_first)
            (no_section p.to end less (le_refl end) (h p.to (omega arith) less) (more.stands).opens_first))
      ]

-- of which so many bytes are known

test_at : (test : ℕ → Bool) (s : List ℕ) (n j : ℕ) → list_all test (take n s) ≡ true → j < n → n ≤ length s → test (get_or s j 0) ≡ true
test_at test s zero j h l w = absurd (omega arith)
test_at test [] (suc n) j h l w = absurd (omega arith)
test_at test (b ∷ s) (suc n) zero h l w = (and_parts (test b) (list_all test (take n s)) h).0
test_at test (b ∷ s) (suc n) (suc j) h l w = test_at test s n j (and_parts (test b) (list_all test (take n s)) h).1 (omega arith) (omega arith)

not_off : (v : Bool) → not v ≡ true → v ≡ false
not_off true h = absurd (true≢false (sym h))
not_off false h = refl

pub text_front : (page : List ℕ) (start : ℕ) (m : Mode) (n : ℕ) → reads_plain m ≡ true → start < length page → 0 < n → n ≤ length (drop start page) →
    list_all is_plain (take n (drop start page)) ≡ true → (n < length (drop start page) → get_or (drop start page) n 0 ≡ 60) →
    IsFront page start m (record { kind = kind.Text; end = start + n; mode = m })
text_front page start m n r l some w plain stop =
    let whole = length-drop start page in
    let from : (j : ℕ) → get_or (drop start page) j 0 ≡ get_or page (start + j) 0 = λ j. get_or-drop start page j 0 in
    text_from page m (start + n) (elim (cases_Bool (n == length (drop start page))) [
      | inl y ↦ (let e = eqb-true n (length (drop start page)) y in inl (omega arith))
      | inr y ↦ (
          let less : n < length (drop start page) = omega (arith, eqb-false n (length (drop start page)) y) in
          inr (omega arith, sym (from n) ∙ stop less))
    ]) n start (omega arith) (omega arith) r
    (λ j a b.
    let here : start + (j - start) ≡ j = omega arith in
    ap (λ k. get_or page k 0 == 60) (sym here) ∙ ap (λ c. c == 60) (sym (from (j - start)))
    ∙ not_off (get_or (drop start page) (j - start) 0 == 60) (test_at is_plain (drop start page) n (j - start) plain (omega arith) w))
