-- Attributes are passed over at once.
use Rattle.std.proofs.Common.{◌≡◌, ◌≤◌, ◌<◌, ℕ, zero, suc, ◌+◌, Bool, true, false, not, inl, inr, ◌==◌, ◌||◌, List, [], ◌∷◌, ◌-◌, length, take, drop, get_or, Option, Some, None, refl, ap, sym, true≢false, subst, ◌∙◌, arith, if◌then◌else◌}
use Rattle.std.specs.List.{list_all}
use Rattle.memchr.specs.Find.{is_byte3}
use Rattle.std.proofs.lemmas.Bool.{and_parts, cases_Bool}
use Rattle.std.proofs.lemmas.List.{drop_more}
use Rattle.tl_html_spec.specs.HtmlTokenizer.{ends_name, is_white_space}
use Rattle.tl_html_spec.specs.Reader.{feed}
use Rattle.tl_html_tokens.specs.Inner.Machine as M
use Rattle.tl_html_tokens.specs.Inner.Quiet.{is_inside_name}
use Rattle.tl_html_tokens.specs.Inner.Scans as S
use Rattle.tl_html_tokens.specs.Inner.Stages.{has_word}
use Rattle.tl_html_tokens.specs.Inner.Through.{goes_on, through}
use Rattle.tl_html_tokens.specs.declared.front.Scan.{Scan}
use Rattle.tl_html_tokens.specs.declared.front.Scanned.TheVariants.{On}
use Rattle.tl_html_tokens.specs.declared.mode.Mode.{Mode}
use Rattle.tl_html_tokens.specs.declared.stage.Quote.TheVariants as quote
use Rattle.tl_html_tokens.specs.declared.stage.Stage.{Stage}
use Rattle.tl_html_tokens.specs.declared.stage.Tag.{Tag}
use Rattle.tl_html_tokens.specs.declared.stage.Stage.TheVariants as stage
use Rattle.tl_html_tokens.specs.declared.stage.Turn.{Turn}
use Rattle.tl_html_tokens.specs.declared.stage.Turn.TheVariants.{Goes, Ends}
use Rattle.tl_html_tokens.proofs.Passing.{ends, feed_is, key_goes, three}
use Rattle.tl_html_tokens.proofs.Places.{between}
use Rattle.tl_html_tokens.proofs.Reading.{Follows, IsScan, scan_next}

-- one byte

record Through (c d : Stage) (b : ℕ) (s : List ℕ) : Type 0 where
  next : Stage
  wordless : has_word c ≡ false
  returns : (b == 13) ≡ false
  turns : M.turn c [] b ≡ Goes next
  rest : through next s ≡ Some d

by_turn : (c d : Stage) (b : ℕ) (s : List ℕ) → has_word c ≡ false → (b == 13) ≡ false → (t : Turn) → M.turn c [] b ≡ t → goes_on (λ n. through n s) t ≡ Some d → Through c d b s
by_turn c d b s w r (Goes n) q e = record { next = n; wordless = w; returns = r; turns = q; rest = e }
by_turn c d b s w r (Ends k m) q e = absurd (let no : None ≡ Some d = e in (cc))

neither : (x y : Bool) → (x || y) ≡ false → (x ≡ false) × (y ≡ false)
neither true y h = absurd (true≢false h)
neither false y h = (refl, h)

parts : (c d : Stage) (b : ℕ) (s : List ℕ) → through c (b ∷ s) ≡ Some d → Through c d b s
parts c d b s e = elim (cases_Bool (has_word c || (b == 13))) [
  | inl y ↦ (let no : None ≡ Some d = rw y at e in absurd (cc))
  | inr n ↦
      let p = neither (has_word c) (b == 13) n in
      by_turn c d b s p.0 p.1 (M.turn c [] b) refl (rw n at e)
]

step : (c n : Stage) (b : ℕ) (s : List ℕ) → has_word c ≡ false → (b == 13) ≡ false → M.turn c [] b ≡ Goes n → through c (b ∷ s) ≡ through n s
step c n b s w r t = rw (w, r, t) refl

-- one after the other
pub join : (c d e : Stage) (n m : ℕ) (s : List ℕ) → n ≤ length s → through c (take n s) ≡ Some d → through d (take m (drop n s)) ≡ Some e → through c (take (n + m) s) ≡ Some e
join c d e zero m s l p q =
    let is : c ≡ d = cc in
    let sum : zero + m ≡ m = omega arith in
    ap (λ k. through c (take k s)) sum ∙ ap (λ x. through x (take m s)) is ∙ q
join c d e (suc n) m [] l p q = absurd (omega arith)
join c d e (suc n) m (b ∷ s) l p q =
    let x = parts c d b (take n s) p in
    let sum : suc n + m ≡ suc (n + m) = omega arith in
    ap (λ k. through c (take k (b ∷ s))) sum
    ∙ step c x.next b (take (n + m) s) x.wordless x.returns x.turns
    ∙ join x.next d e n m s (omega arith) x.rest q

-- a byte at a place
pub one : (c d : Stage) (s : List ℕ) (k b : ℕ) → k < length s → get_or s k 0 ≡ b → through c (b ∷ []) ≡ Some d → through c (take 1 (drop k s)) ≡ Some d
one c d s k b l is e = ap (λ x. through c (take 1 x)) (drop_more s k 0 l) ∙ ap (λ x. through c (x ∷ [])) is ∙ e

-- keys and values

before_goes : (tag : Tag) (b : ℕ) → ends_name b ≡ false → M.before_key tag b ≡ Goes (stage.Key tag)
before_goes tag b h =
    let p = ends (is_white_space b) (b == 47) (b == 62) h in
    ap (λ (v : Bool). if v then Goes (stage.BeforeKey tag) else if b == 47 then Goes (stage.SelfClosing tag) else if b == 62 then M.tag_end tag else Goes (stage.Key tag)) p.0
    ∙ ap (λ (v : Bool). if v then Goes (stage.SelfClosing tag) else if b == 62 then M.tag_end tag else Goes (stage.Key tag)) p.1
    ∙ ap (λ (v : Bool). if v then M.tag_end tag else Goes (stage.Key tag)) p.2

key_run : (tag : Tag) (s : List ℕ) → list_all is_inside_name s ≡ true → through (stage.Key tag) s ≡ Some (stage.Key tag)
key_run tag [] h = refl
key_run tag (b ∷ s) h =
    let p = and_parts (is_inside_name b) (list_all is_inside_name s) h in
    let q = three (ends_name b) (b == 61) (b == 13) p.0 in
    step (stage.Key tag) (stage.Key tag) b s refl q.2 (key_goes tag b q.0 q.1) ∙ key_run tag s p.1

pub whole_key : (tag : Tag) (s : List ℕ) (k : ℕ) → 0 < k → k ≤ length s → list_all is_inside_name (take k s) ≡ true → through (stage.BeforeKey tag) (take k s) ≡ Some (stage.Key tag)
whole_key tag s zero l m h = absurd (omega arith)
whole_key tag [] (suc k) l m h = absurd (omega arith)
whole_key tag (b ∷ s) (suc k) l m h =
    let p = and_parts (is_inside_name b) (list_all is_inside_name (take k s)) h in
    let q = three (ends_name b) (b == 61) (b == 13) p.0 in
    step (stage.BeforeKey tag) (stage.Key tag) b (take k s) refl q.2 (before_goes tag b q.0) ∙ key_run tag (take k s) p.1

in_value : (tag : Tag) → Stage
in_value tag = stage.Value quote.Double tag

value_goes : (tag : Tag) (b : ℕ) → (b == 34) ≡ false → (b == 38) ≡ false → M.turn (stage.Value quote.Double tag) [] b ≡ Goes (stage.Value quote.Double tag)
value_goes tag b p q = rw (p, q) refl

pub value_run : (tag : Tag) (s : List ℕ) → list_all (λ b. not (is_byte3 34 38 13 b)) s ≡ true → through (stage.Value quote.Double tag) s ≡ Some (stage.Value quote.Double tag)
value_run tag [] h = refl
value_run tag (b ∷ s) h =
    let p = and_parts (not (is_byte3 34 38 13 b)) (list_all (λ b. not (is_byte3 34 38 13 b)) s) h in
    let q = three (b == 34) (b == 38) (b == 13) p.0 in
    step (stage.Value quote.Double tag) (stage.Value quote.Double tag) b s refl q.2 (value_goes tag b q.0 q.1) ∙ value_run tag s p.1

-- an attribute
pub attribute : (tag : Tag) (s : List ℕ) (k v : ℕ) → 0 < k → k + 2 + v < length s →
    list_all is_inside_name (take k s) ≡ true → get_or s k 0 ≡ 61 → get_or s (k + 1) 0 ≡ 34 →
    list_all (λ b. not (is_byte3 34 38 13 b)) (take v (drop (k + 2) s)) ≡ true → get_or s (k + 2 + v) 0 ≡ 34 →
    through (stage.BeforeKey tag) (take (k + 2 + v + 1) s) ≡ Some (stage.AfterValue tag)
attribute tag s k v some l key equals quote_in value quote_out =
    let two : k + 1 + 1 ≡ k + 2 = omega arith in
    let a = whole_key tag s k some (omega arith) key in
    let b = join (stage.BeforeKey tag) (stage.Key tag) (stage.BeforeValue tag) k 1 s (omega arith) a
    (one (stage.Key tag) (stage.BeforeValue tag) s k 61 (omega arith) equals refl) in
    let c = join (stage.BeforeKey tag) (stage.BeforeValue tag) (stage.Value quote.Double tag) (k + 1) 1 s (omega arith) b
    (one (stage.BeforeValue tag) (stage.Value quote.Double tag) s (k + 1) 34 (omega arith) quote_in refl) in
    let d = join (stage.BeforeKey tag) (stage.Value quote.Double tag) (stage.Value quote.Double tag) (k + 2) v s (omega arith)
    (subst (λ x. through (stage.BeforeKey tag) (take x s) ≡ Some (stage.Value quote.Double tag)) two c)
    (value_run tag (take v (drop (k + 2) s)) value) in
    join (stage.BeforeKey tag) (stage.Value quote.Double tag) (stage.AfterValue tag) (k + 2 + v) 1 s (omega arith) d
    (one (stage.Value quote.Double tag) (stage.AfterValue tag) s (k + 2 + v) 34 (omega arith) quote_out refl)

-- reading goes on

abbrev at_rest : Stage → ℕ → Scan
at_rest c place = record { stage = c; after_return = false; word = place }

-- what a byte does where no word is read is the same after any bytes
wordless_turn : (c : Stage) (w : List ℕ) (b : ℕ) → has_word c ≡ false → M.turn c w b ≡ M.turn c [] b
wordless_turn (stage.TagName is_end) w b h = absurd (true≢false h)
wordless_turn (stage.RawEndTagName m) w b h = absurd (true≢false h)
wordless_turn stage.DoubleEscapeStart w b h = absurd (true≢false h)
wordless_turn stage.DoubleEscapeEnd w b h = absurd (true≢false h)
wordless_turn stage.Declaration w b h = absurd (true≢false h)
wordless_turn _ w b h = refl

no_word : (c d : Stage) (s : List ℕ) → through c s ≡ Some d → has_word d ≡ false → has_word c ≡ false
no_word c d [] e h = let is : c ≡ d = cc in ap has_word is ∙ h
no_word c d (b ∷ s) e h = (parts c d b s e).wordless

next_is : (page : List ℕ) (place : ℕ) (c n : Stage) → has_word c ≡ false → (get_or page place 0 == 13) ≡ false → M.turn c [] (get_or page place 0) ≡ Goes n → has_word n ≡ false →
    S.next_scan (at_rest c place) page place ≡ On (at_rest n (place + 1))
next_is page place c n w r t v =
    let b : ℕ = get_or page place 0 in
    let turned : M.turn c (between page place place) (feed b) ≡ Goes n = ap (M.turn c (between page place place)) (feed_is b r) ∙ wordless_turn c (between page place place) b w ∙ t in
    ap (λ x. S.after_turn x (b == 13) place place) turned
    ∙ ap (λ (x : Bool). On (record { stage = n; after_return = x; word = if has_word n then place else place + 1 })) r
    ∙ ap (λ (x : Bool). On (record { stage = n; after_return = false; word = if x then place else place + 1 })) v

pub through_on : (page : List ℕ) (start : ℕ) (m : Mode) (n place : ℕ) (c d : Stage) → IsScan page start m place (at_rest c place) → place + n ≤ length page →
    through c (take n (drop place page)) ≡ Some d → has_word d ≡ false → IsScan page start m (place + n) (at_rest d (place + n))
through_on page start m zero place c d h l e v =
    let is : c ≡ d = cc in
    let sum : place ≡ place + zero = omega arith in
    subst (λ k. IsScan page start m k (at_rest d k)) sum (subst (λ x. IsScan page start m place (at_rest x place)) is h)
through_on page start m (suc n) place c d h l e v =
    let inside : place < length page = omega arith in
    let b : ℕ = get_or page place 0 in
    let rest : List ℕ = take n (drop (place + 1) page) in
    let x = parts c d b rest (sym (ap (λ s. through c (take (suc n) s)) (drop_more page place 0 inside)) ∙ e) in
    let w : has_word x.next ≡ false = no_word x.next d rest x.rest v in
    let one = subst (Follows page start m place) (next_is page place c x.next x.wordless x.returns x.turns w) (scan_next page start m place (at_rest c place) h inside) in
    let sum : place + 1 + n ≡ place + suc n = omega arith in
    subst (λ k. IsScan page start m k (at_rest d k)) sum (through_on page start m n (place + 1) x.next d one (omega arith) x.rest v)

-- the same from a scan that stands so

rest_is : (scan : Scan) (c : Stage) (place : ℕ) → scan.stage ≡ c → scan.after_return ≡ false → scan.word ≡ place → at_rest c place ≡ scan
rest_is scan c place s r w =
    ap (λ x. record { stage = x; after_return = false; word = place }) (sym s)
    ∙ ap (λ (x : Bool). record { stage = scan.stage; after_return = x; word = place }) (sym r)
    ∙ ap (λ (x : ℕ). record { stage = scan.stage; after_return = scan.after_return; word = x }) (sym w)

pub attributes_on : (page : List ℕ) (start : ℕ) (m : Mode) (place : ℕ) (tag : Tag) (scan next : Scan) → IsScan page start m place scan →
    scan.stage ≡ stage.BeforeKey tag → scan.after_return ≡ false → place ≤ next.word → next.word ≤ length page → next.after_return ≡ false →
    through (stage.BeforeKey tag) (take (next.word - place) (drop place page)) ≡ Some next.stage → has_word next.stage ≡ false →
    IsScan page start m next.word next
attributes_on page start m place tag scan next h s r order within back e v =
    let c : Stage = stage.BeforeKey tag in
    let plain : scan.word ≡ place = h.plain (ap has_word s) in
    let from : IsScan page start m place (at_rest c place) = subst (IsScan page start m place) (sym (rest_is scan c place s r plain)) h in
    let sum : place + (next.word - place) ≡ next.word = omega (arith, order) in
    let on = through_on page start m (next.word - place) place c next.stage from (omega (arith, order, within)) e v in
    subst (IsScan page start m next.word) (rest_is next next.stage next.word refl back refl) (subst (λ k. IsScan page start m k (at_rest next.stage k)) sum on)
