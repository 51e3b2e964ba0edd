-- CDATA sections: the driver takes their characters.
use Rattle.std.proofs.Common.{◌≡◌, ◌<◌, ◌≤◌, ℕ, suc, ◌+◌, ◌-◌, Bool, true, false, ◌==◌, ◌&&◌, List, [], ◌∷◌, ◌++◌, codes, drop, drop-drop, get_or, length, length-drop, take, refl, ap, ap₂, sym, subst, ◌∙◌, inl, inr, true≢false, arith, if◌then◌else◌}
use Rattle.std.specs.Prelude.{⊤}
use Rattle.std.specs.List.{starts_with}
use Rattle.std.proofs.lemmas.List.{drop_all, drop_more}
use Rattle.std.proofs.lemmas.Bool.{and_parts, cases_Bool, eqb-true}
use Rattle.tl_html_spec.specs.HtmlTokenizer as T
use Rattle.tl_html_spec.specs.HtmlTokenizer.{Character, with_feeds}
use Rattle.tl_html_spec.specs.Reader.{feed}
use Rattle.tl_html_spec.specs.Driven.{Driver, DrivenState, DrivenStep, cdata_section, cdata_section_bracket, cdata_section_end, cdata_start, characters, driven, driven_step, going, in_state, plain, state_after, taken}
use Rattle.tl_html_spec.proofs.Fold.{all_stays, feeds_cons, without_feed}
use Rattle.tl_html_tokens.specs.Sections.{IsSection, IsSectionDriven, begin_len, ends_section, section_len, section_past}
use Rattle.tl_html_tokens.specs.declared.section.Section.{Section}

flip : (a b : ℕ) → (a == b) ≡ false → (b == a) ≡ false
flip a b h = elim (cases_Bool (b == a)) [
  | inl y ↦ (
      let e = eqb-true b a y in
      let same : (b == b) ≡ true = subst (λ c. (b == c) ≡ true) (sym e) y in
      let is : (a == b) ≡ true = subst (λ c. (c == b) ≡ true) e same in
      absurd (true≢false (sym is ∙ h)))
  | inr n ↦ n
]

-- where line ends are line feeds already

data Brackets : Type 0 where
  none : Brackets
  one : Brackets
  two : Brackets

abbrev bracket_state : Brackets → DrivenState
bracket_state none = cdata_section
bracket_state one = cdata_section_bracket
bracket_state two = cdata_section_end

abbrev brackets : Brackets → List ℕ
brackets none = []
brackets one = 93 ∷ []
brackets two = 93 ∷ 93 ∷ []

module _ {M : Type 0} (d : Driver M) where
  abbrev After : M → List ℕ → M
  After m u = driven d (taken d m (characters (take (section_len u) u))) (in_state T.data_state) (drop (section_past u) u)

  -- after these brackets, which may belong to its end
  behind : (k : Brackets) (u : List ℕ) (m : M) → driven d m (bracket_state k) u ≡ After m (brackets k ++ u)
  behind none [] m = refl
  behind none (c ∷ u) m = elim (cases_Bool (c == 93)) [
    | inl y ↦ subst (λ b. driven d m cdata_section (b ∷ u) ≡ After m (b ∷ u)) (sym (eqb-true c 93 y)) (behind one u m)
    | inr n ↦ rw (n, flip c 93 n) (behind none u (d.take m (plain (Character c))))
  ]
  behind one [] m = refl
  behind one (c ∷ u) m = elim (cases_Bool (c == 93)) [
    | inl y ↦ subst (λ b. driven d m cdata_section_bracket (b ∷ u) ≡ After m (93 ∷ b ∷ u)) (sym (eqb-true c 93 y)) (behind two u m)
    | inr n ↦ rw (n, flip c 93 n) (behind none u (d.take (d.take m (plain (Character 93))) (plain (Character c))))
  ]
  behind two [] m = refl
  behind two (c ∷ u) m = elim (cases_Bool (c == 93)) [
    | inl y ↦ subst (λ b. driven d m cdata_section_end (b ∷ u) ≡ After m (93 ∷ 93 ∷ b ∷ u)) (sym (eqb-true c 93 y)) (behind two u (d.take m (plain (Character 93))))
    | inr n ↦ elim (cases_Bool (c == 62)) [
      | inl y ↦ subst (λ b. driven d m cdata_section_end (b ∷ u) ≡ After m (93 ∷ 93 ∷ b ∷ u)) (sym (eqb-true c 62 y)) refl
      | inr o ↦ rw (n, o, flip c 93 n, flip c 62 o)
          (behind none u (d.take (d.take (d.take m (plain (Character 93))) (plain (Character 93))) (plain (Character c))))
    ]
  ]

  -- its first bytes

  pub stepped : (m : M) (s t : DrivenState) (c : ℕ) (u : List ℕ) → driven_step (d.is_foreign m) s c ≡ going t [] → driven d m s (c ∷ u) ≡ driven d m t u
  stepped m s t c u e = ap (λ (x : DrivenStep). driven d (taken d m x.emits) (state_after d (taken d m x.emits) x) u) e

  pub less_goes : (f : Bool) → driven_step f (in_state T.data_state) 60 ≡ going (in_state T.tag_open) []
  less_goes true = refl
  less_goes false = refl

  pub bang_goes : (f : Bool) → driven_step f (in_state T.tag_open) 33 ≡ going (in_state (T.markup_declaration_open [])) []
  bang_goes true = refl
  bang_goes false = refl

  begins : (m : M) (u : List ℕ) → d.is_foreign m ≡ true → driven d m (in_state T.data_state) (codes "<![CDATA[" ++ u) ≡ driven d m cdata_section u
  begins m u f =
      stepped m (in_state T.data_state) (in_state T.tag_open) 60 (codes "![CDATA[" ++ u) (less_goes (d.is_foreign m))
      ∙ stepped m (in_state T.tag_open) (in_state (T.markup_declaration_open [])) 33 (codes "[CDATA[" ++ u) (bang_goes (d.is_foreign m))
      ∙ stepped m (in_state (T.markup_declaration_open [])) (cdata_start (91 ∷ [])) 91 (codes "CDATA[" ++ u) (ap (λ v. driven_step v (in_state (T.markup_declaration_open [])) 91) f)

-- line ends in a section

abbrev AreNoEnds : List ℕ → Type 0
AreNoEnds [] = ⊤
AreNoEnds (x ∷ p) = ((x == 10) ≡ false) × ((x == 13) ≡ false) × AreNoEnds p

and_same : (v w : Bool) (x : Bool) → v ≡ false → w ≡ false → (y : Bool) → (v && x) ≡ (w && y)
and_same v w x h k y = ap (λ a. a && x) h ∙ sym (ap (λ a. a && y) k)

fed_starts : (p : List ℕ) → AreNoEnds p → (t : List ℕ) → starts_with ◌==◌ (with_feeds t) p ≡ starts_with ◌==◌ t p
fed_starts [] h t = refl
fed_starts (x ∷ p) h [] = refl
fed_starts (x ∷ p) h (c ∷ t) = ap (λ s. starts_with ◌==◌ s (x ∷ p)) (feeds_cons c t) ∙ elim (cases_Bool (c == 13)) [
  | inl y ↦ (
      let e = eqb-true c 13 y in
      let fed : (x == feed c) ≡ false = ap (λ b. x == feed b) e ∙ h.0 in
      and_same (x == feed c) (x == c) (starts_with ◌==◌ (with_feeds (without_feed (c == 13) t)) p) fed (ap (λ b. x == b) e ∙ h.1) (starts_with ◌==◌ t p))
  | inr n ↦ (
      ap₂ (λ b s. (x == b) && starts_with ◌==◌ (with_feeds s) p) (ap (λ (v : Bool). if v then 10 else c) n) (ap (λ v. without_feed v t) n ∙ all_stays t)
      ∙ ap (λ v. (x == c) && v) (fed_starts p h.2 t))
]

-- a line feed after a carriage return is passed over
abbrev pub fed : Bool → List ℕ → List ℕ
fed v s = with_feeds (without_feed v s)

pub fed_more : (c : ℕ) (t : List ℕ) (v : Bool) → (v && (c == 10)) ≡ false → fed v (c ∷ t) ≡ feed c ∷ fed (c == 13) t
fed_more c t v n = ap (λ (w : Bool). with_feeds (if w then t else c ∷ t)) n ∙ feeds_cons c t

pub fed_passed : (c : ℕ) (t : List ℕ) (v : Bool) → (v && (c == 10)) ≡ true → fed v (c ∷ t) ≡ fed false t
fed_passed c t v y = ap (λ (w : Bool). with_feeds (if w then t else c ∷ t)) y ∙ ap with_feeds (sym (all_stays t))

fed_ends : (c : ℕ) (t : List ℕ) → ends_section (feed c ∷ fed (c == 13) t) ≡ ends_section (c ∷ t)
fed_ends c t = ap ends_section (sym (feeds_cons c t)) ∙ fed_starts (codes "]]>") (refl, refl, (refl, refl, (refl, refl, tt))) (c ∷ t)

-- a section that goes on
len_more : (c : ℕ) (t : List ℕ) → ends_section (c ∷ t) ≡ false → take (section_len (c ∷ t)) (c ∷ t) ≡ c ∷ take (section_len t) t
len_more c t n = ap (λ (w : Bool). take (if w then 0 else suc (section_len t)) (c ∷ t)) n

past_more : (c : ℕ) (t : List ℕ) → ends_section (c ∷ t) ≡ false → drop (section_past (c ∷ t)) (c ∷ t) ≡ drop (section_past t) t
past_more c t n = ap (λ (w : Bool). drop (if w then 3 else suc (section_past t)) (c ∷ t)) n

line_feed : (c : ℕ) (t : List ℕ) → (c == 10) ≡ true → ends_section (c ∷ t) ≡ false
line_feed c t y = ap (λ b. ends_section (b ∷ t)) (eqb-true c 10 y)

record Fed (v : Bool) (s : List ℕ) : Type 0 where
  text : take (section_len (fed v s)) (fed v s) ≡ fed v (take (section_len s) s)
  past : drop (section_past (fed v s)) (fed v s) ≡ with_feeds (drop (section_past s) s)

three : (c : ℕ) (t : List ℕ) → ends_section (c ∷ t) ≡ true → (r : List ℕ) × (c ∷ t ≡ 93 ∷ 93 ∷ 62 ∷ r)
three c [] y = absurd (true≢false (sym (and_parts (93 == c) false y).1))
three c (e ∷ []) y = absurd (true≢false (sym (and_parts (93 == e) false (and_parts (93 == c) _ y).1).1))
three c (e ∷ f ∷ r) y =
    let p = and_parts (93 == c) _ y in
    let q = and_parts (93 == e) _ p.1 in
    let u = and_parts (62 == f) true q.1 in
    (r, ap₂ (λ a b. a ∷ b) (sym (eqb-true 93 c p.0)) (ap₂ (λ a b. a ∷ b ∷ r) (sym (eqb-true 93 e q.0)) (sym (eqb-true 62 f u.0))))

is_fed : (s : List ℕ) (v : Bool) → Fed v s
is_fed [] v = record { text = refl; past = refl }
is_fed (c ∷ t) v = elim (cases_Bool (v && (c == 10))) [
  | inl y ↦ (
      let ten = (and_parts v (c == 10) y).1 in
      let off = line_feed c t ten in
      let more = is_fed t false in
      let w = fed_passed c t v y in
      record {
        text = ap (λ u. take (section_len u) u) w ∙ more.text ∙ sym (ap (fed v) (len_more c t off) ∙ fed_passed c (take (section_len t) t) v y);
        past = ap (λ u. drop (section_past u) u) w ∙ more.past ∙ sym (ap with_feeds (past_more c t off));
      })
  | inr n ↦ elim (cases_Bool (ends_section (c ∷ t))) [
    | inl y ↦ (
        let q = three c t y in
        let w : fed v (c ∷ t) ≡ 93 ∷ 93 ∷ 62 ∷ with_feeds q.0 =
        ap (λ (x : Bool). with_feeds (if x then t else c ∷ t)) n ∙ ap with_feeds q.1 ∙ ap (λ u. 93 ∷ 93 ∷ u) (feeds_cons 62 q.0 ∙ ap (λ u. 62 ∷ with_feeds u) (all_stays q.0)) in
        record {
          text = ap (λ u. take (section_len u) u) w ∙ sym (ap (λ u. fed v (take (section_len u) u)) q.1 ∙ fed_none v);
          past = ap (λ u. drop (section_past u) u) w ∙ sym (ap (λ u. with_feeds (drop (section_past u) u)) q.1);
        })
    | inr o ↦ (
        let more = is_fed t (c == 13) in
        let w = fed_more c t v n in
        let off = fed_ends c t ∙ o in
        record {
          text = ap (λ u. take (section_len u) u) w ∙ len_more (feed c) (fed (c == 13) t) off ∙ ap (λ u. feed c ∷ u) more.text
              ∙ sym (ap (fed v) (len_more c t o) ∙ fed_more c (take (section_len t) t) v n);
          past = ap (λ u. drop (section_past u) u) w ∙ past_more (feed c) (fed (c == 13) t) off ∙ more.past ∙ sym (ap with_feeds (past_more c t o));
        })
  ]
]
  where
    fed_none : (v : Bool) → fed v [] ≡ []
    fed_none v = refl

-- in a page

after_begin : (t : List ℕ) (p : List ℕ) → starts_with ◌==◌ t p ≡ true → (u : List ℕ) × (t ≡ p ++ u)
after_begin t [] h = (t, refl)
after_begin [] (c ∷ p) h = absurd (true≢false (sym h))
after_begin (b ∷ t) (c ∷ p) h =
    let q = and_parts (c == b) (starts_with ◌==◌ t p) h in
    let more = after_begin t p q.1 in
    (more.0, ap₂ (λ a s. a ∷ s) (sym (eqb-true c b q.0)) more.1)

begin_fed : (u : List ℕ) → with_feeds (codes "<![CDATA[" ++ u) ≡ codes "<![CDATA[" ++ with_feeds u
begin_fed u = ap (λ s. codes "<![CDATA" ++ s) (feeds_cons 91 u ∙ ap (λ s. 91 ∷ with_feeds s) (all_stays u))

pub section_driven : {M : Type 0} (d : Driver M) (m : M) (page : List ℕ) (start : ℕ) (section : Section) → IsSection page start section → d.is_foreign m ≡ true →
    IsSectionDriven d m page start section
section_driven d m page start section h f =
    let q = after_begin (drop start page) (codes "<![CDATA[") h.begins in
    let u : List ℕ = q.0 in
    let rest_is : drop (start + begin_len) page ≡ u = sym (drop-drop 9 start page) ∙ ap (drop 9) q.1 in
    let len : section.text_end - (start + begin_len) ≡ section_len (drop (start + begin_len) page) = let e = h.text_end in omega arith in
    let text : take (section.text_end - (start + begin_len)) (drop (start + begin_len) page) ≡ take (section_len u) u =
    ap (λ n. take n (drop (start + begin_len) page)) len ∙ ap (λ s. take (section_len s) s) rest_is in
    let past : drop section.end page ≡ drop (section_past u) u =
    ap (λ n. drop n page) h.end ∙ sym (drop-drop (section_past (drop (start + begin_len) page)) (start + begin_len) page) ∙ ap (λ s. drop (section_past s) s) rest_is in
    let whole : fed false u ≡ with_feeds u = ap with_feeds (all_stays u) in
    let x = is_fed u false in
    ap (λ s. driven d m (in_state T.data_state) (with_feeds s)) q.1
    ∙ ap (driven d m (in_state T.data_state)) (begin_fed u)
    ∙ begins d m (with_feeds u) f
    ∙ behind d none (with_feeds u) m
    ∙ sym (ap (λ s. After d m s) whole)
    ∙ ap₂ (λ s t. driven d (taken d m (characters s)) (in_state T.data_state) t) (x.text ∙ ap with_feeds (all_stays (take (section_len u) u))) x.past
    ∙ sym (ap₂ (λ s t. driven d (taken d m (characters (with_feeds s))) (in_state T.data_state) (with_feeds t)) text past)

-- its places

len_past : (t : List ℕ) → (section_len t ≤ section_past t) × (section_past t ≤ length t)
len_past [] = (omega arith, omega arith)
len_past (c ∷ t) = elim (cases_Bool (ends_section (c ∷ t))) [
  | inl y ↦ (
      let q = three c t y in
      let long = ap length q.1 in
      let len : section_len (c ∷ t) ≡ 0 = ap (λ (w : Bool). if w then 0 else suc (section_len t)) y in
      let past : section_past (c ∷ t) ≡ 3 = ap (λ (w : Bool). if w then 3 else suc (section_past t)) y in
      (omega arith, omega arith))
  | inr n ↦ (
      let more = len_past t in
      let len : section_len (c ∷ t) ≡ suc (section_len t) = ap (λ (w : Bool). if w then 0 else suc (section_len t)) n in
      let past : section_past (c ∷ t) ≡ suc (section_past t) = ap (λ (w : Bool). if w then 3 else suc (section_past t)) n in
      (omega (arith, more.0), omega (arith, more.1)))
]

pub section_within : (page : List ℕ) (from text_end end : ℕ) → from ≤ length page → text_end ≡ from + section_len (drop from page) → end ≡ from + section_past (drop from page) →
    (text_end ≤ end) × (end ≤ length page)
section_within page from text_end end h e f =
    let whole = length-drop from page in
    let k = len_past (drop from page) in
    (omega (arith, k.0), omega (arith, k.1))

-- byte by byte

pub section_on : (page : List ℕ) (at : ℕ) → at < length page → starts_with ◌==◌ (drop at page) (codes "]]>") ≡ false →
    (at + section_len (drop at page) ≡ at + 1 + section_len (drop (at + 1) page)) × (at + section_past (drop at page) ≡ at + 1 + section_past (drop (at + 1) page))
section_on page at h n =
    let b : ℕ = get_or page at 0 in
    let s : List ℕ = drop (at + 1) page in
    let is : drop at page ≡ b ∷ s = drop_more page at 0 h in
    let off : ends_section (b ∷ s) ≡ false = sym (ap ends_section is) ∙ n in
    let len : section_len (drop at page) ≡ suc (section_len s) = ap section_len is ∙ ap (λ (w : Bool). if w then 0 else suc (section_len s)) off in
    let past : section_past (drop at page) ≡ suc (section_past s) = ap section_past is ∙ ap (λ (w : Bool). if w then 3 else suc (section_past s)) off in
    (omega arith, omega arith)

pub section_here : (page : List ℕ) (at : ℕ) → at < length page → starts_with ◌==◌ (drop at page) (codes "]]>") ≡ true →
    (at ≡ at + section_len (drop at page)) × (at + 3 ≡ at + section_past (drop at page))
section_here page at h y =
    let b : ℕ = get_or page at 0 in
    let s : List ℕ = drop (at + 1) page in
    let is : drop at page ≡ b ∷ s = drop_more page at 0 h in
    let on : ends_section (b ∷ s) ≡ true = sym (ap ends_section is) ∙ y in
    let len : section_len (drop at page) ≡ 0 = ap section_len is ∙ ap (λ (w : Bool). if w then 0 else suc (section_len s)) on in
    let past : section_past (drop at page) ≡ 3 = ap section_past is ∙ ap (λ (w : Bool). if w then 3 else suc (section_past s)) on in
    (omega arith, omega arith)

pub section_none : (page : List ℕ) (at : ℕ) → length page ≤ at → (at ≡ at + section_len (drop at page)) × (at ≡ at + section_past (drop at page))
section_none page at h =
    let is : drop at page ≡ [] = drop_all at page h in
    let len : section_len (drop at page) ≡ 0 = ap section_len is in
    let past : section_past (drop at page) ≡ 0 = ap section_past is in
    (omega arith, omega arith)
