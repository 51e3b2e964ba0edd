-- What holds of a builder where something stands open in `head`, behind it or in `body`, and what is done to it: it keeps that.
use Rattle.std.proofs.Common.{Bool, List, None, Option, Some, [], ap, arith, codes, false, inl, inr, not, refl, subst, suc, sym, true, true≢false, ℕ, ◌&&◌, ◌<◌, ◌==◌, ◌∙◌, ◌∷◌, ◌≡◌, ◌≤◌, ◌⊎◌}
use Rattle.std.specs.Prelude.{nat_lt, ⊤}
use Rattle.std.specs.Str.{bytes_eq}
use Rattle.std.proofs.lemmas.Bool.{and_parts, and_right, cases_Bool, cond_both}
use Rattle.std.proofs.lemmas.Bool.Decides.{nat_tests}
use Rattle.tl_names.specs.Elements.{implied_ends, is_among}
use Rattle.tl_html_spec.specs.Balanced.{is_one_of, words}
use Rattle.tl_dom_spec.specs.Tags.{Attribute, Tag, is_any, is_html, is_implied}
use Rattle.tl_dom_spec.specs.Path.{Frame, Nodes, Path, Place, and_element, elements, has_tag, implied_closed, is_open_number, new_frame, no_nodes, popped_through, popped_while, put, within}
use Rattle.tl_dom_spec.specs.Builder.{Builder, Entry, Mode, add_attributes, after_after_body, after_after_frameset, after_body, after_frameset, after_head, appropriate_place, before_head, before_html, close_except_for, current_node, formatting, in_body, in_caption, in_cell, in_column_group, in_frameset, in_head, in_head_noscript, in_row, in_table, in_table_body, in_table_text, in_template, initial, insert_and_pop_at, insert_element_at, marker, pop_current_node, text_mode, with_path, without_last_marker}
use Rattle.tl_dom_spec.specs.Formatting.{alike_count, insert_formatting_element, is_alike, is_entry, listed, listed_behind, reconstruct_formatting, relisted, reopen, reopen_each, unlisted, with_room, without_earliest}
use Rattle.tl_dom_spec.specs.Adoption.{entry_moved}
use Rattle.tl_dom_spec.specs.Lawful.{IsIn}
use Rattle.tl_dom_spec.proofs.Allowed.{Each}
use Rattle.tl_dom_spec.proofs.Words.{any_word}
use Rattle.tl_dom_spec.proofs.SeatedPaths.{Alike, IsBody, IsCell, IsHtml, Loose, Placed, Seated, Stops, Tagged, Unbarred, Wider, alike_any, bar_is, bar_names, bar_off, bodied, cell, high, html_is_bar, inside, more-Seated, new-Seated, one_of_these, place_in-Placed, popped-Sought, popped_through-Seated, put-Seated, rooted, search-Sought, settled_while-Seated, top-Sought, wider-Seated}
use Rattle.tl_dom_spec.proofs.Adopting.{each-weaken}

abbrev pub IfSome : {X : Type 0} → (X → Type 0) → Option X → Type 0
IfSome P None = ⊤
IfSome P (Some x) = P x

-- modes

abbrev pub IsTableMode : Mode → Type 0
IsTableMode in_table = ⊤
IsTableMode in_table_body = ⊤
IsTableMode in_row = ⊤
IsTableMode _ = ⊥

-- which modes there are, by the lowest number and the tag of what stays
abbrev pub Fits : ℕ → Tag → Mode → Mode → Type 0
Fits low tg in_body own = ⊤
Fits low tg in_table own = ⊤
Fits low tg in_table_text own = IsTableMode own
Fits low tg in_caption own = ⊤
Fits low tg in_column_group own = ⊤
Fits low tg in_table_body own = ⊤
Fits low tg in_row own = ⊤
Fits low tg in_cell own = IsCell tg
Fits low tg in_template own = ⊤
Fits low tg after_body own = low ≤ 2
Fits low tg in_frameset own = low ≤ 2
Fits low tg after_after_body own = low ≤ 2
Fits low tg after_frameset own = low ≤ 2
Fits low tg after_after_frameset own = low ≤ 2
Fits low tg after_head own = low ≡ 1
Fits low tg _ own = ⊥

-- those of a template
abbrev pub IsTemplateMode : Mode → Type 0
IsTemplateMode in_body = ⊤
IsTemplateMode in_table = ⊤
IsTemplateMode in_column_group = ⊤
IsTemplateMode in_table_body = ⊤
IsTemplateMode in_row = ⊤
IsTemplateMode in_template = ⊤
IsTemplateMode _ = ⊥

-- those that there are while a `frameset` may still take the place of `body`
abbrev pub is_calm : Mode → Bool
is_calm in_body = true
is_calm after_head = true
is_calm after_body = true
is_calm in_frameset = true
is_calm after_frameset = true
is_calm after_after_body = true
is_calm after_after_frameset = true
is_calm _ = false

pub record Quiet (low : ℕ) (tg : Tag) (mode own : Mode) (templates : List Mode) (is_fostering ok has_head : Bool) (context : Option Tag) : Type 0 where
  pub fits : Fits low tg mode own
  pub templates_fit : Each IsTemplateMode templates
  pub fostering : is_fostering ≡ true → ok ≡ false
  pub calm : ok ≡ true → is_calm mode ≡ true
  pub head : has_head ≡ true
  pub page : context ≡ None
  pub early : 3 ≤ low → ok ≡ false

-- entries of the list of active formatting elements
abbrev pub IsFree : Tag → Type 0
IsFree t = (is_any (codes "html head body frameset template td th") t ≡ false) × (is_html t ≡ true)

abbrev pub IsNumber : List ℕ → List ℕ → ℕ → Type 0
IsNumber S L k = IsIn k S × IsIn k L

abbrev pub Kept : List ℕ → List ℕ → Entry → Type 0
Kept S L marker = ⊤
Kept S L (formatting k tag) = IsNumber S L k × IsFree tag

-- the form element pointer
pub record IsForm (S L : List ℕ) (k : ℕ) : Type 0 where
  pub number : IsIn k S
  pub unlisted : IsIn k L → ⊥

pub record Held (S L : List ℕ) (low m : ℕ) (tg : Tag) (path : Path) (entries : List Entry) (next : ℕ) (pointer : Option ℕ) (ok : Bool) : Type 0 where
  pub seats : Seated S L next ok low m tg path
  pub active : Each (Kept S L) entries
  pub form : IfSome (IsForm S L) pointer
  pub numbers : Each (λ k. (2 < k) × (k < next)) S
  pub listed : Each (λ k. k < next) L
  pub above : 2 < next

-- numbers

pub each_in : (P : ℕ → Type 0) (k : ℕ) (S : List ℕ) → Each P S → IsIn k S → P k
each_in P k [] h i = absurd i
each_in P k (n ∷ S) h (inl e) = subst P (sym e) h.0
each_in P k (n ∷ S) h (inr i) = each_in P k S h.1 i

pub number_above : {S L : List ℕ} {low m next : ℕ} {tg : Tag} {path : Path} {entries : List Entry} {pointer : Option ℕ} {ok : Bool} (k : ℕ) → Held S L low m tg path entries next pointer ok → IsIn k S → (2 < k) × (k < next)
number_above {S} {next} k h i = each_in (λ j. (2 < j) × (j < next)) k S h.numbers i

-- the path alone

-- tests of tags

abbrev pub NoBar : (Tag → Bool) → Type 0
NoBar s = (t : Tag) → is_any bar_names t ≡ true → s t ≡ false

pub no_bar_any : (names : List ℕ) → Each (λ name. is_one_of names name ≡ false) (words bar_names) → NoBar (λ t. is_any names t)
no_bar_any names k t e =
    and_right (is_html t) (is_one_of names t.name)
    (any_word (λ name. is_one_of names name ≡ false) (words bar_names) t.name k (and_parts (is_html t) (is_one_of bar_names t.name) e).1)

-- what bounds a search at `html`, a template and a cell
abbrev pub Bounds : (Tag → Bool) → Type 0
Bounds bounds = (t : Tag) → is_any (codes "html template td th") t ≡ true → bounds t ≡ true

bound_or_body : {S L : List ℕ} {N : ℕ} {ok : Bool} {low m : ℕ} {tg : Tag} {path : Path} (bounds : Tag → Bool) → Bounds bounds → Seated S L N ok low m tg path → IsBody tg ⊎ (bounds tg ≡ true)
bound_or_body {tg} bounds k (high t rest b i r) = inr (k tg (one_of_these [] [] 0 true (codes "template") (codes "html template td th") tg (refl, tt) i))
bound_or_body bounds k (bodied g h d b p i r a w e) = inl i
bound_or_body {tg} bounds k (rooted h d r e n b) = inr (k tg (one_of_these [] [] 0 true (codes "html") (codes "html template td th") tg (refl, tt) (subst IsHtml e r.tag)))
bound_or_body {tg} bounds k (cell f p b l i s) = inr (k tg (one_of_these [] [] 0 true (codes "td th") (codes "html template td th") tg (refl, (refl, tt)) i))
bound_or_body bounds k (inside f p l s) = bound_or_body bounds k s

pub stops_of : {S L : List ℕ} {N low m : ℕ} {ok : Bool} {tg : Tag} {path : Path} (s bounds : Tag → Bool) → NoBar s → Bounds bounds → (y : Seated S L N ok low m tg path) → Stops S L N ok (λ _ t. s t) bounds m tg
stops_of {S} {L} {N} {ok} {tg} s bounds n k y = record {
  bar = n tg (bar_is S L N ok y);
  root = λ t i. n t (html_is_bar [] [] 0 true t i);
  bounds_root = λ t i. k t (one_of_these [] [] 0 true (codes "html") (codes "html template td th") t (refl, tt) i);
  bounds_bar = bound_or_body bounds k y;
}

pub stops_at : {S L : List ℕ} {N low m : ℕ} {ok : Bool} {tg : Tag} {path : Path} (k : ℕ) (bounds : Tag → Bool) → 2 < k → IsIn k S → Bounds bounds → (y : Seated S L N ok low m tg path) → Stops S L N ok (λ n _. n == k) bounds m tg
stops_at {S} {L} {N} {ok} {tg} k bounds l i w y = record {
  bar = bar_off S L N ok k l i y;
  root = λ t x. grind (arith, nat_tests, l);
  bounds_root = λ t x. w t (one_of_these [] [] 0 true (codes "html") (codes "html template td th") t (refl, tt) x);
  bounds_bar = bound_or_body bounds w y;
}

-- what is popped

pub implied_bar : (but : Tag → Bool) → NoBar (λ t. is_implied t && not (but t))
implied_bar but t e =
    ap (λ x. x && not (but t)) (and_right (is_html t) (is_among implied_ends t.name)
    (any_word (λ name. is_among implied_ends name ≡ false) (words bar_names) t.name (refl, (refl, (refl, (refl, (refl, (refl, tt)))))) (and_parts (is_html t) (is_one_of bar_names t.name) e).1))

-- what is inserted

-- the next number is taken

pub one_more : (S L : List ℕ) (N : ℕ) (ok : Bool) → Wider S L N ok S L (suc N) ok
one_more S L N ok = record { numbers = λ k l i. i; listed = λ k l i. i; more = omega arith; narrower = λ e. e }

pub later_numbers : (S : List ℕ) (N : ℕ) → Each (λ k. (2 < k) × (k < N)) S → Each (λ k. (2 < k) × (k < suc N)) S
later_numbers S N h = each-weaken (λ k. (2 < k) × (k < N)) (λ k. (2 < k) × (k < suc N)) S (λ k l. (l.0, omega (arith, l.1))) h

pub later_listed : (L : List ℕ) (N : ℕ) → Each (λ k. k < N) L → Each (λ k. k < suc N) L
later_listed L N h = each-weaken (λ k. k < N) (λ k. k < suc N) L (λ k l. omega (arith, l)) h

fresh : (S : List ℕ) (N : ℕ) → Each (λ k. k < N) S → IsIn N S → ⊥
fresh S N h i = omega (arith, each_in (λ k. k < N) N S h i)

pub number_fresh : (S : List ℕ) (N : ℕ) → Each (λ k. (2 < k) × (k < N)) S → IsIn N S → ⊥
number_fresh S N h i = omega (arith, (each_in (λ k. (2 < k) × (k < N)) N S h i).1)

pub new-Loose : (S L : List ℕ) (low N : ℕ) (ok : Bool) (tag : Tag) (place : Place) → 2 < N → Placed low ok place → Tagged low ok tag → (IsIn N S → Unbarred tag) → Loose S L (suc N) ok low (new_frame N tag place)
new-Loose S L low N ok tag place a p t n = record { above = a; below = omega arith; place = p; tag = t; bars = n; still = λ _. refl; shut = λ e. absurd (true≢false e) }

-- tags that may be opened anywhere

abbrev pub IsPlain : Tag → Type 0
IsPlain t = (is_any (codes "html head body frameset template") t ≡ false)

pub fewer : (names more : List ℕ) (t : Tag) → Each (λ name. is_one_of more name ≡ true) (words names) → is_any more t ≡ false → is_any names t ≡ false
fewer names more t k e =
    elim (cases_Bool (is_any names t)) [
      | inl y ↦ absurd (true≢false (sym (one_of_these [] [] 0 true names more t k y) ∙ e))
      | inr n ↦ n
    ]

pub plain-Tagged : (low : ℕ) (ok : Bool) (t : Tag) → IsPlain t → Tagged low ok t
plain-Tagged low ok t e = record {
  no_root = fewer (codes "html head") (codes "html head body frameset template") t (refl, (refl, tt)) e;
  no_body = λ _. fewer (codes "body frameset") (codes "html head body frameset template") t (refl, (refl, tt)) e;
  no_template = λ _. fewer (codes "template") (codes "html head body frameset template") t (refl, tt) e;
}

pub free_plain : (t : Tag) → IsFree t → IsPlain t
free_plain t e = fewer (codes "html head body frameset template") (codes "html head body frameset template td th") t (refl, (refl, (refl, (refl, (refl, tt))))) e.0

pub free_bar : (t : Tag) → IsFree t → Unbarred t
free_bar t e = (fewer bar_names (codes "html head body frameset template td th") t (refl, (refl, (refl, (refl, (refl, (refl, tt)))))) e.0, e.1)

-- and is listed

listing : (S L : List ℕ) (N : ℕ) (ok : Bool) → Wider S L N ok (N ∷ S) (N ∷ L) (suc N) ok
listing S L N ok = record {
  numbers = λ k l i. elim i [ inl e ↦ absurd (omega (arith, l, e)) | inr j ↦ j ];
  listed = λ k l i. elim i [ inl e ↦ absurd (omega (arith, l, e)) | inr j ↦ j ];
  more = omega arith;
  narrower = λ e. e;
}

more_kept : (S L : List ℕ) (N : ℕ) (entry : Entry) → Kept S L entry → Kept (N ∷ S) (N ∷ L) entry
more_kept S L N marker h = tt
more_kept S L N (formatting k tag) h = ((inr h.0.0, inr h.0.1), h.1)

later_form : (S L : List ℕ) (N k : ℕ) → Each (λ j. (2 < j) × (j < N)) S → IsForm S L k → IsForm (N ∷ S) (N ∷ L) k
later_form S L N k h f = record {
  number = inr f.number;
  unlisted = λ i. elim i [ inl e ↦ omega (arith, e, (each_in (λ j. (2 < j) × (j < N)) k S h f.number).1) | inr j ↦ f.unlisted j ];
}

later_pointer : (S L : List ℕ) (N : ℕ) (pointer : Option ℕ) → Each (λ j. (2 < j) × (j < N)) S → IfSome (IsForm S L) pointer → IfSome (IsForm (N ∷ S) (N ∷ L)) pointer
later_pointer S L N None h f = tt
later_pointer S L N (Some k) h f = later_form S L N k h f

-- entries

module _ (P : Entry → Type 0) where
  pub without_marker-kept : (entries : List Entry) → Each P entries → Each P (without_last_marker entries)
  without_marker-kept [] h = tt
  without_marker-kept (marker ∷ entries) h = h.1
  without_marker-kept (formatting k tag ∷ entries) h = without_marker-kept entries h.1

  earliest-kept : (own : Tag) (entries : List Entry) → Each P entries → Each P (without_earliest own entries)
  earliest-kept own [] h = tt
  earliest-kept own (marker ∷ entries) h = h
  earliest-kept own (formatting k tag ∷ entries) h =
      cond_both (is_alike own tag && (alike_count own entries == 0)) _ _ (Each P) (λ _. h.1) (λ _. (h.0, earliest-kept own entries h.1))

  room-kept : (own : Tag) (entries : List Entry) → Each P entries → Each P (with_room own entries)
  room-kept own entries h = cond_both (nat_lt 2 (alike_count own entries)) _ _ (Each P) (λ _. earliest-kept own entries h) (λ _. h)

  pub unlisted-kept : (k : ℕ) (entries : List Entry) → Each P entries → Each P (unlisted k entries)
  unlisted-kept k [] h = tt
  unlisted-kept k (entry ∷ entries) h =
      cond_both (is_entry k entry) (unlisted k entries) (entry ∷ unlisted k entries) (Each P) (λ _. unlisted-kept k entries h.1) (λ _. (h.0, unlisted-kept k entries h.1))

  pub relisted-kept : (k new : ℕ) (entries : List Entry) → ((j : ℕ) (tag : Tag) → P (formatting j tag) → P (formatting new tag)) → Each P entries → Each P (relisted k new entries)
  relisted-kept k new [] n h = tt
  relisted-kept k new (marker ∷ entries) n h = (h.0, relisted-kept k new entries n h.1)
  relisted-kept k new (formatting j tag ∷ entries) n h =
      (cond_both (j == k) new j (λ x. P (formatting x tag)) (λ _. n j tag h.0) (λ _. h.0), relisted-kept k new entries n h.1)

  behind-kept : (k : ℕ) (new : Entry) (entries : List Entry) → P new → Each P entries → Each P (listed_behind k new entries)
  behind-kept k new [] n h = tt
  behind-kept k new (entry ∷ entries) n h =
      cond_both (is_entry k entry) (new ∷ entry ∷ entries) (entry ∷ listed_behind k new entries) (Each P) (λ _. (n, h)) (λ _. (h.0, behind-kept k new entries n h.1))

  pub listed-kept : (name : List ℕ) (entries : List Entry) → Each P entries → IfSome (λ own. P (formatting own.number own.tag)) (listed name entries)
  listed-kept name [] h = tt
  listed-kept name (marker ∷ entries) h = tt
  listed-kept name (formatting k tag ∷ entries) h =
      cond_both (bytes_eq name tag.name) (Some (record { number = k; tag = tag })) (listed name entries) (IfSome (λ own. P (formatting own.number own.tag))) (λ _. h.0) (λ _. listed-kept name entries h.1)

  pub moved-kept : (k new : ℕ) (tag : Tag) (clones : Path) (entries : List Entry) → P (formatting new tag) → ((j : ℕ) (t : Tag) → P (formatting j t) → P (formatting new t)) → Each P entries → Each P (entry_moved k new tag clones entries)
  moved-kept k new tag [] entries n w h = relisted-kept k new entries w h
  moved-kept k new tag (clone ∷ clones) entries n w h = behind-kept clone.number (formatting new tag) (unlisted k entries) n (unlisted-kept k entries h)

-- attributes are added

alike_fits : (low : ℕ) (tg own : Tag) (mode original : Mode) → Alike [] [] 0 true tg own → Fits low tg mode original → Fits low own mode original
alike_fits low tg own in_cell o a f = alike_any [] [] 0 true (codes "td th") tg own a ∙ f
alike_fits low tg own in_body o a f = f
alike_fits low tg own in_table o a f = f
alike_fits low tg own in_table_text o a f = f
alike_fits low tg own in_caption o a f = f
alike_fits low tg own in_column_group o a f = f
alike_fits low tg own in_table_body o a f = f
alike_fits low tg own in_row o a f = f
alike_fits low tg own in_template o a f = f
alike_fits low tg own after_body o a f = f
alike_fits low tg own in_frameset o a f = f
alike_fits low tg own after_after_body o a f = f
alike_fits low tg own after_frameset o a f = f
alike_fits low tg own after_after_frameset o a f = f
alike_fits low tg own initial o a f = absurd f
alike_fits low tg own before_html o a f = absurd f
alike_fits low tg own before_head o a f = absurd f
alike_fits low tg own in_head o a f = absurd f
alike_fits low tg own in_head_noscript o a f = absurd f
alike_fits low tg own after_head o a f = f
alike_fits low tg own text_mode o a f = absurd f

module _ (low : ℕ) (md : Mode) where
  pub record DeepOf (path : Path) (entries : List Entry) (next : ℕ) (pointer : Option ℕ) (ok : Bool) (mode own : Mode) (templates : List Mode) (is_fostering has_head : Bool) (context : Option Tag) : Type 0 where
    pub S : List ℕ
    pub L : List ℕ
    pub m : ℕ
    pub mode_is : mode ≡ md
    pub tg : Tag
    pub held : Held S L low m tg path entries next pointer ok
    pub quiet : Quiet low tg mode own templates is_fostering ok has_head context

  abbrev pub Deep : Builder → Type 0
  Deep b = DeepOf b.path b.active b.next b.form b.is_frameset_ok b.mode b.original b.templates b.is_fostering b.has_head b.context

  abbrev pub on_path : (b : Builder) (other : Path) → (d : Deep b) → Seated d.S d.L b.next b.is_frameset_ok low d.m d.tg other → Deep (with_path b other)
  on_path b other d s = record {
    S = d.S;
    L = d.L;
    m = d.m;
    mode_is = d.mode_is;
    tg = d.tg;
    held = record { seats = s; active = d.held.active; form = d.held.form; numbers = d.held.numbers; listed = d.held.listed; above = d.held.above };
    quiet = d.quiet;
  }

  abbrev pub while-Deep : (s : Tag → Bool) (b : Builder) → NoBar s → Deep b → Deep (with_path b (popped_while (λ (f : Frame). s f.tag) b.path))
  while-Deep s b n d = on_path b _ d (settled_while-Seated d.S d.L b.next b.is_frameset_ok (λ _ t. s t) b.path b.path (n d.tg (bar_is d.S d.L b.next b.is_frameset_ok d.held.seats)) d.held.seats)

  abbrev pub implied-Deep : (but : Tag → Bool) (b : Builder) → Deep b → Deep (with_path b (implied_closed but b.path))
  implied-Deep but b d = while-Deep (λ t. is_implied t && not (but t)) b (implied_bar but) d

  abbrev pub until-Deep : (s bounds : Tag → Bool) (b : Builder) → NoBar s → Bounds bounds → within (has_tag s) (has_tag bounds) (elements b.path) ≡ true → Deep b → Deep (with_path b (popped_through (has_tag s) b.path))
  until-Deep s bounds b n k e d =
      let y = d.held.seats in
      on_path b _ d (popped_through-Seated d.S d.L b.next b.is_frameset_ok (λ _ t. s t) b.path
      (search-Sought d.S d.L b.next b.is_frameset_ok (λ _ t. s t) bounds (stops_of s bounds n k y) e y))

  abbrev pub close-Deep : (but s bounds : Tag → Bool) (b : Builder) → NoBar s → Bounds bounds → ((t : Tag) → s t ≡ true → (is_implied t && not (but t)) ≡ false) →
      within (has_tag s) (has_tag bounds) (elements b.path) ≡ true → Deep b → Deep (close_except_for but s b)
  close-Deep but s bounds b n k w e d =
      let y = d.held.seats in
      let sought = search-Sought d.S d.L b.next b.is_frameset_ok (λ _ t. s t) bounds (stops_of s bounds n k y) e y in
      on_path b _ d (popped_through-Seated d.S d.L b.next b.is_frameset_ok (λ _ t. s t) (implied_closed but b.path)
      (popped-Sought d.S d.L b.next b.is_frameset_ok (λ _ t. s t) (λ _ t. is_implied t && not (but t)) b.path b.path (λ _ t x. w t x) sought))

  abbrev pub pop-Deep : (s : Tag → Bool) (b : Builder) → NoBar s → s (current_node b).tag ≡ true → Deep b → Deep (pop_current_node b)
  pop-Deep s b n e d =
      on_path b _ d (top-Sought d.S d.L b.next b.is_frameset_ok (λ _ t. s t) (n d.tg (bar_is d.S d.L b.next b.is_frameset_ok d.held.seats)) e d.held.seats)

  pub appropriate-Placed : (b : Builder) (d : Deep b) → Placed low b.is_frameset_ok (appropriate_place b)
  appropriate-Placed b d = place_in-Placed d.S d.L b.next b.is_frameset_ok b.is_fostering b.path d.quiet.fostering d.held.seats

  pub put-Deep : (place : Place) (nodes : Nodes) (b : Builder) → (d : Deep b) → Placed low b.is_frameset_ok place → Deep (with_path b (put place nodes b.path))
  put-Deep place nodes b d p = on_path b _ d (put-Seated d.S d.L b.next b.is_frameset_ok place nodes p d.held.seats)

  pub alone_at-Deep : (place : Place) (tag : Tag) (b : Builder) → (d : Deep b) → Placed low b.is_frameset_ok place → Deep (insert_and_pop_at place tag b)
  alone_at-Deep place tag b d p =
      let h = d.held in
      record {
        S = d.S;
        L = d.L;
        m = d.m;
        mode_is = d.mode_is;
        tg = d.tg;
        held = record {
          seats = wider-Seated d.S d.L b.next b.is_frameset_ok d.S d.L (suc b.next) b.is_frameset_ok (one_more d.S d.L b.next b.is_frameset_ok)
              (put-Seated d.S d.L b.next b.is_frameset_ok place (and_element no_nodes tag no_nodes) p h.seats);
          active = h.active;
          form = h.form;
          numbers = later_numbers d.S b.next h.numbers;
          listed = later_listed d.L b.next h.listed;
          above = omega (arith, h.above);
        };
        quiet = d.quiet;
      }

  pub insert_at-Deep : (place : Place) (tag : Tag) (b : Builder) → (d : Deep b) → Placed low b.is_frameset_ok place → Tagged low b.is_frameset_ok tag → Deep (insert_element_at place tag b)
  insert_at-Deep place tag b d p t =
      let h = d.held in
      record {
        S = d.S;
        L = d.L;
        m = d.m;
        mode_is = d.mode_is;
        tg = d.tg;
        held = record {
          seats = new-Seated d.S d.L (suc b.next) b.is_frameset_ok b.next tag place place b.path
              (new-Loose d.S d.L low b.next b.is_frameset_ok tag place h.above p t (λ i. absurd (number_fresh d.S b.next h.numbers i)))
              (wider-Seated d.S d.L b.next b.is_frameset_ok d.S d.L (suc b.next) b.is_frameset_ok (one_more d.S d.L b.next b.is_frameset_ok) h.seats);
          active = h.active;
          form = h.form;
          numbers = later_numbers d.S b.next h.numbers;
          listed = later_listed d.L b.next h.listed;
          above = omega (arith, h.above);
        };
        quiet = d.quiet;
      }

  pub insert-Deep : (tag : Tag) (b : Builder) → IsPlain tag → Deep b → Deep (insert_element_at (appropriate_place b) tag b)
  insert-Deep tag b t d = insert_at-Deep (appropriate_place b) tag b d (appropriate-Placed b d) (plain-Tagged low b.is_frameset_ok tag t)

  -- an entry for what is inserted
  inserted_listed : (tag : Tag) (entries : List Entry) (b : Builder) → IsFree tag → (d : Deep b) → Each (Kept d.S d.L) entries →
      Deep (record (insert_element_at (appropriate_place b) tag b) { active = formatting b.next tag ∷ entries })
  inserted_listed tag entries b t d k =
      let h = d.held in
      let place : Place = appropriate_place b in
      record {
        S = b.next ∷ d.S;
        L = b.next ∷ d.L;
        m = d.m;
        mode_is = d.mode_is;
        tg = d.tg;
        held = record {
          seats = new-Seated (b.next ∷ d.S) (b.next ∷ d.L) (suc b.next) b.is_frameset_ok b.next tag place place b.path
              (new-Loose (b.next ∷ d.S) (b.next ∷ d.L) low b.next b.is_frameset_ok tag place h.above (appropriate-Placed b d) (plain-Tagged low b.is_frameset_ok tag (free_plain tag t)) (λ _. free_bar tag t))
              (wider-Seated d.S d.L b.next b.is_frameset_ok (b.next ∷ d.S) (b.next ∷ d.L) (suc b.next) b.is_frameset_ok (listing d.S d.L b.next b.is_frameset_ok) h.seats);
          active = (((inl refl, inl refl), t), each-weaken (Kept d.S d.L) (Kept (b.next ∷ d.S) (b.next ∷ d.L)) entries (more_kept d.S d.L b.next) k);
          form = later_pointer d.S d.L b.next b.form h.numbers h.form;
          numbers = ((h.above, omega arith), later_numbers d.S b.next h.numbers);
          listed = (omega arith, later_listed d.L b.next h.listed);
          above = omega (arith, h.above);
        };
        quiet = d.quiet;
      }

  abbrev pub with_active : (b : Builder) (entries : List Entry) → (d : Deep b) → Each (Kept d.S d.L) entries → Deep (record b { active = entries })
  with_active b entries d k = record {
    S = d.S;
    L = d.L;
    m = d.m;
    mode_is = d.mode_is;
    tg = d.tg;
    held = record { seats = d.held.seats; active = k; form = d.held.form; numbers = d.held.numbers; listed = d.held.listed; above = d.held.above };
    quiet = d.quiet;
  }

  pub formatting-Deep : (tag : Tag) (b : Builder) → IsFree tag → Deep b → Deep (insert_formatting_element tag b)
  formatting-Deep tag b t d = inserted_listed tag (with_room tag b.active) b t d (room-kept (Kept d.S d.L) tag b.active d.held.active)

  reopen-Deep : (tag : Tag) (b : Builder) → IsFree tag → Deep b → Deep (reopen tag b)
  reopen-Deep tag b t d = inserted_listed tag b.active b t d d.held.active

  -- the later entries are opened again behind the earlier ones
  reopen_each-Deep : (b : Builder) (entries : List Entry) → (d : Deep b) → Each (Kept d.S d.L) entries → Deep (reopen_each b entries)
  reopen_each-Deep b [] d e = with_active b [] d tt
  reopen_each-Deep b (marker ∷ entries) d e = with_active b (marker ∷ entries) d e
  reopen_each-Deep b (formatting k tag ∷ entries) d e =
      elim (is_open_number k b.path) as (λ v. Deep (elim v as (λ _. Builder) [
        | true ↦ record b { active = formatting k tag ∷ entries }
        | false ↦ reopen tag (reopen_each b entries)
      ])) [
        | true ↦ with_active b (formatting k tag ∷ entries) d e
        | false ↦ reopen-Deep tag (reopen_each b entries) e.0.1 (reopen_each-Deep b entries d e.1)
      ]

  pub reconstruct-Deep : (b : Builder) → Deep b → Deep (reconstruct_formatting b)
  reconstruct-Deep b d = reopen_each-Deep b b.active d d.held.active

  pub attributes-Deep : (k : ℕ) (more : List Attribute) (b : Builder) → Deep b → Deep (add_attributes k more b)
  attributes-Deep k more b d =
      let t = more-Seated d.S d.L b.next b.is_frameset_ok k more d.held.seats in
      record {
        S = d.S;
        L = d.L;
        m = d.m;
        mode_is = d.mode_is;
        tg = t.0;
        held = record { seats = t.2; active = d.held.active; form = d.held.form; numbers = d.held.numbers; listed = d.held.listed; above = d.held.above };
        quiet = record {
          fits = alike_fits low d.tg t.0 b.mode b.original t.1 d.quiet.fits;
          templates_fit = d.quiet.templates_fit;
          fostering = d.quiet.fostering;
          calm = d.quiet.calm;
          head = d.quiet.head;
          page = d.quiet.page;
          early = d.quiet.early;
        };
      }
