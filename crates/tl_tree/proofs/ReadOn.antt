-- A page is read on: what is left of it stays what it was.
use Rattle.std.proofs.Common.{Bool, Err, List, Ok, Result, ap, arith, nat_lt, not, refl, subst, true≢false, drop, false, length, map, sym, true, ℕ, ◌∙◌, ◌≡◌, ◌≤◌}
use Rattle.std.proofs.lemmas.Bool.{lt-ltb, ltb-true}
use Rattle.std.proofs.lemmas.List.{drop_all}
use Rattle.tl_dom_spec.specs.Builder.{Builder, a_character, end_of_file}
use Rattle.tl_dom_spec.specs.Dispatcher.{token_done, tokens_done}
use Rattle.tl_dom_spec.specs.Driver.{builder, read_from}
use Rattle.tl_dom_spec.specs.HtmlTree.{is_little, most_beside}
use Rattle.tl_dom_spec.proofs.ExcessLaw.{read_excess}
use Rattle.tl_html_spec.specs.Driven.{Emission, characters, driven, in_state, taken}
use Rattle.tl_html_spec.specs.HtmlTokenizer.{State, with_feeds}
use Rattle.tl_html_tokens.specs.Driving.{opens_section, state_set}
use Rattle.tl_html_tokens.specs.Emits.{AreEmits, IsTold, front_bytes}
use Rattle.tl_html_tokens.specs.Fronts.{IsFront}
use Rattle.tl_html_tokens.specs.Modes.{state_of}
use Rattle.tl_html_tokens.specs.Sections.{IsSection, section_text}
use Rattle.tl_html_tokens.specs.declared.front.Front.{Front}
use Rattle.tl_html_tokens.specs.declared.mode.Mode.{Mode}
use Rattle.tl_html_tokens.specs.declared.mode.Mode.TheVariants as mode
use Rattle.tl_html_tokens.specs.declared.section.Section.{Section}
use Rattle.tl_html_tokens.proofs.Sections.{section_driven}
use Rattle.tl_html_tokens.proofs.Told.{front_told, nothing_at_end}
use Rattle.tl_tree.proofs.Taken.{characters-taken}
use Rattle.tl_tree.specs.Inner.Builders.{builder_of}
use Rattle.tl_tree.specs.Inner.Reading.{left, left_of}
use Rattle.tl_tree.specs.declared.error.ReadError.{ReadError}
use Rattle.tl_tree.specs.declared.error.ReadError.TheVariants as errors
use Rattle.tl_tree.specs.declared.reader.Reader.{Reader}

-- before the first token
pub begins : (start b : Builder) (state : State) (m : Mode) (bytes page : List ℕ) (at : ℕ) → b ≡ start → state_of m ≡ state → bytes ≡ drop at page → token_done (left b m page at) end_of_file ≡ read_from start (in_state state) (with_feeds bytes)
begins start b state m bytes page at is is_state rest =
    ap (λ (d : Builder). token_done (left d m page at) end_of_file) is
    ∙ (ap (λ own. read_from start (in_state own) (with_feeds (drop at page))) is_state
    ∙ ap (λ text. read_from start (in_state state) (with_feeds text)) (sym rest))

-- behind the last one
pub at-end : (b : Builder) (m : Mode) (page : List ℕ) (at : ℕ) → length page ≤ at → left b m page at ≡ b
at-end b m page at h =
    ap (λ text. driven builder b (in_state (state_of m)) (with_feeds text)) (drop_all at page h) ∙ nothing_at_end builder b m

-- behind what stood in front
pub front-on : (b b' : Builder) (page : List ℕ) (at : ℕ) (m m' : Mode) (front : Front) → IsFront page at m front → opens_section builder b page at m ≡ false → ((emits : List Emission) → AreEmits m (front_bytes page at front) front.kind emits → b' ≡ taken builder b emits) → state_of m' ≡ state_set builder b' front → left b' m' page front.end ≡ left b m page at
front-on b b' page at m m' front f closed ok state =
    let t : IsTold builder b page at m front = front_told builder b page at m front f closed in
    let is = ok t.emits t.told in
    ap (λ s. driven builder b' (in_state s) (with_feeds (drop front.end page))) (state ∙ ap (λ (d : Builder). state_set builder d front) is)
    ∙ (ap (λ (d : Builder). driven builder d (in_state (state_set builder (taken builder b t.emits) front)) (with_feeds (drop front.end page))) is
    ∙ sym t.goes_on)

-- behind a CDATA section
pub section-on : (b b1 b' : Builder) (page : List ℕ) (at : ℕ) (m : Mode) (section : Section) (said : List ℕ) → IsSection page at section → builder.is_foreign b ≡ true → m ≡ mode.Data → b1 ≡ b → said ≡ with_feeds (section_text page at section) → b' ≡ tokens_done b1 (map a_character said) → left b' m page section.end ≡ left b m page at
section-on b b1 b' page at m section said h foreign is-mode is-b1 is-said is-b' =
    let text = with_feeds (section_text page at section) in
    let all = taken builder b (characters text) in
    let is : b' ≡ all =
    characters-taken b b' (characters text) text
    (is-b' ∙ (ap (λ own. tokens_done b1 (map a_character own)) is-said ∙ ap (λ (d : Builder). tokens_done d (map a_character text)) is-b1)) refl in
    ap (λ (d : Builder). left d m page section.end) is
    ∙ (ap (λ (own : Mode). left all own page section.end) is-mode
    ∙ (sym (section_driven builder b page at section h foreign)
    ∙ ap (λ (own : Mode). left b own page at) (sym is-mode)))

pub left-at-end : (r : Reader) → length r.page.now ≤ r.at → left_of r ≡ builder_of r.builder
unfolding left_of
left-at-end r h = at-end (builder_of r.builder) r.mode r.page.now r.at h

pub whole : (start r : Reader) (b : Builder) → b ≡ token_done (builder_of r.builder) end_of_file → length r.page.now ≤ r.at → left_of r ≡ left_of start → b ≡ token_done (left_of start) end_of_file
whole start r b is past same =
    is ∙ ap (λ (d : Builder). token_done d end_of_file) (sym (left-at-end r past) ∙ same)

-- A tree that is out of proportion stays so

not-false : (x : Bool) → not x ≡ false → x ≡ true
not-false true e = refl
not-false false e = absurd (true≢false e)

little-less : (m n : ℕ) → m ≤ n → is_little m ≡ false → is_little n ≡ false
little-less m n le e =
    let more = ltb-true most_beside m (not-false (nat_lt most_beside m) e) in
    ap not (lt-ltb most_beside n (omega arith))

large-left : (b : Builder) (m : Mode) (page : List ℕ) (at : ℕ) → is_little b.excess ≡ false → is_little (token_done (left b m page at) end_of_file).excess ≡ false
large-left b m page at e =
    little-less b.excess (token_done (left b m page at) end_of_file).excess (read_excess b (in_state (state_of m)) (with_feeds (drop at page))) e

pub large-later : (start r : Reader) → left_of r ≡ left_of start → is_little (builder_of r.builder).excess ≡ false → is_little (token_done (left_of start) end_of_file).excess ≡ false
unfolding left_of
large-later start r same e =
    subst (λ (d : Builder). is_little (token_done d end_of_file).excess ≡ false) same
    (large-left (builder_of r.builder) r.mode r.page.now r.at e)

-- the byte of a refusal

abbrev place-in : ReadError → ℕ
place-in (errors.OutOfProportion at) = at
place-in _ = 0

abbrev refused-at : {T : Type 0} → Result T ReadError → ℕ
refused-at (Ok own) = 0
refused-at (Err e) = place-in e

pub place-of : {T : Type 0} (a b : ℕ) → ◌≡◌ {A = Result T ReadError} (Err (errors.OutOfProportion a)) (Err (errors.OutOfProportion b)) → a ≡ b
place-of {T} a b is = ap (refused-at {T = T}) is
