-- What is done further in, and the rules of "in body": each keeps what holds of a builder.
use Rattle.std.proofs.Common.{Bool, List, None, Option, Some, [], ap, arith, codes, false, if◌then◌else◌, inl, inr, not, refl, subst, suc, sym, true, true≢false, ℕ, ◌&&◌, ◌<◌, ◌==◌, ◌∙◌, ◌∷◌, ◌≡◌}
use Rattle.std.specs.Prelude.{⊤}
use Rattle.std.specs.Char.{is_ascii_whitespace}
use Rattle.std.specs.Str.{bytes_eq}
use Rattle.std.proofs.lemmas.Bool.{and_from, and_left, and_parts, and_right, cases_Bool, cond_both, or_left}
use Rattle.std.proofs.lemmas.Slice.Eq.{bytes_eq-Decides}
use Rattle.tl_names.specs.Elements.{headings, implied_ends, is_among}
use Rattle.tl_html_spec.specs.Balanced.{is_one_of, words}
use Rattle.tl_dom_spec.specs.Tags.{Namespace, Tag, bare_tag, by_space, has_value, is_any, is_button_scope, is_foster_target, is_heading, is_html, is_implied, is_item_bound, is_list_scope, is_math_mark, is_named, is_paragraph, is_scope, is_select, is_special_name, is_svg_mark, no_tag}
use Rattle.tl_dom_spec.specs.Groups.{Group, a_base, a_frameset, a_link, a_mark, a_noframes, a_noscript, a_row, a_script, a_style, a_table, a_table_body, a_template, a_title, an_anchor, group, the_body, the_head, the_html}
use Rattle.tl_dom_spec.specs.Marks.{Marked, marked}
use Rattle.tl_dom_spec.specs.Path.{Frame, Nodes, Path, Place, and_comment, and_element, and_text, behind, caught_up, elements, has_number, has_tag, here, implied_closed, into, into_head, is_open_number, new_frame, no_nodes, on_top, popped_through, settled, settled_at, taken_out, within}
use Rattle.tl_dom_spec.specs.Builder.{Again, Builder, Done, Entry, Mode, Outcome, add_attributes, after_after_body, after_after_frameset, after_body, after_frameset, after_head, appropriate_place, before_head, before_html, clear_to_last_marker, close_except_for, current_tag, formatting, frameset_not_ok, generate_implied_end_tags, generate_implied_end_tags_except_for, has_in_button_scope, has_in_list_item_scope, has_in_scope, has_template, in_body, in_caption, in_cell, in_column_group, in_frameset, in_head, in_head_noscript, in_row, in_table, in_table_body, in_table_text, in_template, initial, insert_and_pop, insert_bytes, insert_character, insert_comment, insert_element, insert_element_at, insert_implied, insert_marker, is_context, marker, parse_raw_text, parse_raw_text_at, pop_current_node, pop_until, pushed_at, switch_to, text_mode, with_path}
use Rattle.tl_dom_spec.specs.Formatting.{Listed, listed, reconstruct_formatting, unlisted}
use Rattle.tl_dom_spec.specs.Adoption.{adoption_agency}
use Rattle.tl_dom_spec.specs.Adjusted.{foreign_tag, insert_foreign_element}
use Rattle.tl_dom_spec.specs.Head.{html_start, in_head_start, template_opened}
use Rattle.tl_dom_spec.specs.Lawful.{IsIn}
use Rattle.tl_dom_spec.specs.Body.{anchor_ended, body_character, body_start_at, close_in_scope, close_p, earlier_item, form_at, form_ended, form_taken_out, heading_closed, input_inserted, item_closed, item_closed_at, item_ended, mark_ended, nobr_ended, noscript_start_in_body, option_ended, option_start, p_ended, ruby_closed, rule_start, select_closed, select_start, table_start_in_body, void_start}
use Rattle.tl_dom_spec.proofs.Allowed.{Each}
use Rattle.tl_dom_spec.proofs.Words.{any_word}
use Rattle.tl_dom_spec.proofs.SeatedPaths.{Placed, Seated, Sought, Tagged, Wider, bar_names, bodied, caught_up-Grows, cell, found, high, html_is_bar, inside, left-Seated, narrower_place, new-Seated, on_top-Seated, one_of_these, past, popped-Sought, popped_through-Seated, put-Seated, rooted, settled-Seated, settled_at-Seated, wider-Seated}
use Rattle.tl_dom_spec.proofs.SeatedBuilders.{Bounds, Deep, Fits, IfSome, IsForm, IsFree, IsPlain, Kept, NoBar, alone_at-Deep, appropriate-Placed, attributes-Deep, close-Deep, each_in, free_bar, free_plain, implied-Deep, insert-Deep, insert_at-Deep, is_calm, later_listed, later_numbers, new-Loose, no_bar_any, number_above, on_path, one_more, plain-Tagged, pop-Deep, put-Deep, reconstruct-Deep, until-Deep, with_active, without_marker-kept}
use Rattle.tl_dom_spec.proofs.SeatedAdoption.{agency-Deep, agency-Grew, html_space_is, scope_bounds}
use Rattle.tl_dom_spec.proofs.GroupNames.{IsTiedTag, is_bar_group, is_implied_group, is_root_group, named_not_implied, no_bar_named, other_name, plain_of}
use Rattle.tl_dom_spec.proofs.Grounds.{Ground, GroundOf, deep}
use Rattle.std.proofs.lemmas.Bool.Decides.{nat_tests}
use Rattle.tl_dom_spec.proofs.Adopting.{each-weaken}

-- a page from its head on

abbrev pub IsSome_path : Path → Type 0
IsSome_path path = (f : Frame) × (more : Path) × (path ≡ f ∷ more)

pub data Stage (b : Builder) : Type 0 where
  ground : Ground b → Stage b
  -- an element that holds text alone is open, and is settled by a place where it may go
  in_text : (x : Frame) (p : Path) → b.path ≡ x ∷ p → IsSome_path p → b.mode ≡ text_mode → is_html x.tag ≡ true → is_foster_target x.tag ≡ false → b.context ≡ None →
      ((nodes : Nodes) → GroundOf (settled (settled_at x.place nodes p)) b.active b.next b.form b.is_frameset_ok b.original b.original b.templates b.is_fostering b.has_head b.context) → Stage b

abbrev pub StageAfter : Outcome → Type 0
StageAfter (Done b) = Stage b
StageAfter (Again b) = Stage b

pub if_after : (v : Bool) (x y : Outcome) → (v ≡ true → StageAfter x) → (v ≡ false → StageAfter y) → StageAfter (if v then x else y)
if_after v x y p q = cond_both v x y StageAfter p q

pub skip-Stage : (b : Builder) → Stage b → Stage (record b { skips = true })
skip-Stage b (ground g) = ground g
skip-Stage b (in_text x p e s m h t c w) = in_text x p e s m h t c w

-- what is under a new frame
abbrev pub under : Place → Path → Path
under here path = on_top caught_up path
under place path = path

pub pushed_is : (place : Place) (f : Frame) (path : Path) → pushed_at place f path ≡ f ∷ under place path
pushed_is here f path = refl
pushed_is (into k) f path = refl
pushed_is (behind k) f path = refl
pushed_is into_head f path = refl

pub under-Seated : {S L : List ℕ} {N : ℕ} {ok : Bool} {low m : ℕ} {tg : Tag} {path : Path} (place : Place) → Seated S L N ok low m tg path → Seated S L N ok low m tg (under place path)
under-Seated {S} {L} {N} {ok} here s = on_top-Seated S L N ok caught_up (caught_up-Grows S L N ok) s
under-Seated (into k) s = s
under-Seated (behind k) s = s
under-Seated into_head s = s

seated_some : {S L : List ℕ} {N : ℕ} {ok : Bool} {low m : ℕ} {tg : Tag} {path : Path} → Seated S L N ok low m tg path → IsSome_path path
seated_some (high t rest b i r) = (t, rest, refl)
seated_some (bodied g h d b p i r a w e) = (g, h ∷ d ∷ [], refl)
seated_some (rooted h d r e n b) = (h, d ∷ [], refl)
seated_some (cell f p b l i s) = (f, p, refl)
seated_some (inside f p l s) = (f, p, refl)

-- modes but that of pending characters
abbrev pub IsTaking : Mode → Type 0
IsTaking in_table_text = ⊥
IsTaking _ = ⊤

pub refit : (low : ℕ) (tg : Tag) (mode own other : Mode) → IsTaking mode → Fits low tg mode own → Fits low tg mode other
refit low tg in_body own other k f = f
refit low tg in_table own other k f = f
refit low tg in_table_text own other k f = absurd k
refit low tg in_caption own other k f = f
refit low tg in_column_group own other k f = f
refit low tg in_table_body own other k f = f
refit low tg in_row own other k f = f
refit low tg in_cell own other k f = f
refit low tg in_template own other k f = f
refit low tg after_body own other k f = f
refit low tg in_frameset own other k f = f
refit low tg after_after_body own other k f = f
refit low tg after_frameset own other k f = f
refit low tg after_after_frameset own other k f = f
refit low tg initial own other k f = absurd f
refit low tg before_html own other k f = absurd f
refit low tg before_head own other k f = absurd f
refit low tg in_head own other k f = absurd f
refit low tg in_head_noscript own other k f = absurd f
refit low tg after_head own other k f = f
refit low tg text_mode own other k f = absurd f

-- bounds and tests

pub button_bounds : Bounds is_button_scope
button_bounds t e = or_left (is_scope t) _ (scope_bounds t e)

pub list_bounds : Bounds is_list_scope
list_bounds t e = or_left (is_scope t) _ (scope_bounds t e)

pub but_itself : (s : Tag → Bool) (t : Tag) → s t ≡ true → (is_implied t && not (s t)) ≡ false
but_itself s t e = and_right (is_implied t) (not (s t)) (ap not e)

pub unimplied : (but : Tag → Bool) (t : Tag) → is_implied t ≡ false → (is_implied t && not (but t)) ≡ false
unimplied but t e = and_left (is_implied t) (not (but t)) e

pub any_not_implied : (names : List ℕ) (t : Tag) → Each (λ name. is_among implied_ends name ≡ false) (words names) → is_any names t ≡ true → is_implied t ≡ false
any_not_implied names t k e =
    and_right (is_html t) _
    (any_word (λ name. is_among implied_ends name ≡ false) (words names) t.name k (and_parts (is_html t) (is_one_of names t.name) e).1)

pub no_bar_paragraph : NoBar is_paragraph
no_bar_paragraph = no_bar_any (codes "p") (refl, (refl, (refl, (refl, (refl, (refl, tt))))))

pub no_bar_select : NoBar is_select
no_bar_select = no_bar_any (codes "select") (refl, (refl, (refl, (refl, (refl, (refl, tt))))))

pub no_bar_heading : NoBar is_heading
no_bar_heading t e =
    and_right (is_html t) _
    (any_word (λ name. is_among headings name ≡ false) (words bar_names) t.name (refl, (refl, (refl, (refl, (refl, (refl, tt)))))) (and_parts (is_html t) (is_one_of bar_names t.name) e).1)

pub heading_unimplied : (t : Tag) → is_heading t ≡ true → is_implied t ≡ false
heading_unimplied t e =
    and_right (is_html t) _
    (any_word (λ name. is_among implied_ends name ≡ false) headings t.name (refl, (refl, (refl, (refl, (refl, (refl, tt)))))) (and_parts (is_html t) (is_among headings t.name) e).1)

abbrev pub is_table_group : Group → Bool
is_table_group a_table = true
is_table_group a_table_body = true
is_table_group a_row = true
is_table_group _ = false

abbrev pub is_outer_group : Group → Bool
is_outer_group the_html = true
is_outer_group the_head = true
is_outer_group the_body = true
is_outer_group a_frameset = true
is_outer_group _ = false

abbrev pub is_head_part : Group → Bool
is_head_part a_base = true
is_head_part a_link = true
is_head_part a_title = true
is_head_part a_noframes = true
is_head_part a_style = true
is_head_part a_script = true
is_head_part a_template = true
is_head_part _ = false

some_map : {X : Type 0} → (P Q : X → Type 0) (o : Option X) → ((x : X) → P x → Q x) → IfSome P o → IfSome Q o
some_map P Q None w h = tt
some_map P Q (Some x) w h = w x h

same_number : (k : ℕ) → (k == k) ≡ true
same_number k = grind (arith, nat_tests)

-- what bounds the search for an item
item_words : (counts : Bool) → Each (λ name. (is_special_name counts name && not (is_one_of (codes "address div p") name)) ≡ true) (words bar_names)
item_words true = (refl, (refl, (refl, (refl, (refl, (refl, tt))))))
item_words false = (refl, (refl, (refl, (refl, (refl, (refl, tt))))))

item_bound_bar : (counts : Bool) (t : Tag) → is_any bar_names t ≡ true → is_item_bound counts t ≡ true
item_bound_bar counts t e =
    let y = and_parts (is_html t) (is_one_of bar_names t.name) e in
    ap (λ s. by_space s (is_special_name counts t.name) (is_math_mark t) (is_svg_mark t) && not (by_space s true false false && is_one_of (codes "address div p") t.name)) (html_space_is t.space y.0)
    ∙ any_word (λ name. (is_special_name counts name && not (is_one_of (codes "address div p") name)) ≡ true) (words bar_names) t.name (item_words counts) y.1

module _ (low : ℕ) (md : Mode) where
  abbrev pub D : Builder → Type 0
  D b = Deep low md b

  pub if_deep : (v : Bool) (x y : Builder) → (v ≡ true → D x) → (v ≡ false → D y) → D (if v then x else y)
  if_deep v x y p q = cond_both v x y D p q

  pub done : {b : Builder} → D b → Stage b
  done d = ground (deep d)

  -- what is set

  pub unsure : (S L : List ℕ) (N : ℕ) (ok : Bool) → Wider S L N ok S L N false
  unsure S L N ok = record { numbers = λ k l i. i; listed = λ k l i. i; more = omega arith; narrower = λ e. absurd (true≢false (sym e)) }

  pub not_ok-Deep : (b : Builder) → D b → D (frameset_not_ok b)
  not_ok-Deep b d = record {
    S = d.S;
    L = d.L;
    m = d.m;
    mode_is = d.mode_is;
    tg = d.tg;
    held = record {
      seats = wider-Seated d.S d.L b.next b.is_frameset_ok d.S d.L b.next false (unsure d.S d.L b.next b.is_frameset_ok) d.held.seats;
      active = d.held.active;
      form = d.held.form;
      numbers = d.held.numbers;
      listed = d.held.listed;
      above = d.held.above;
    };
    quiet = record {
      fits = d.quiet.fits;
      templates_fit = d.quiet.templates_fit;
      fostering = λ _. refl;
      calm = λ e. absurd (true≢false (sym e));
      head = d.quiet.head;
      page = d.quiet.page;
      early = λ _. refl;
    };
  }

  pub switch-Deep : (m : Mode) (b : Builder) → (d : D b) → Fits low d.tg m b.original → (b.is_frameset_ok ≡ true → is_calm m ≡ true) → Deep low m (switch_to m b)
  switch-Deep m b d f c = record {
    S = d.S;
    L = d.L;
    m = d.m;
    mode_is = refl;
    tg = d.tg;
    held = d.held;
    quiet = record { fits = f; templates_fit = d.quiet.templates_fit; fostering = d.quiet.fostering; calm = c; head = d.quiet.head; page = d.quiet.page; early = d.quiet.early };
  }

  pub marker-Deep : (b : Builder) → D b → D (insert_marker b)
  marker-Deep b d = with_active low md b (marker ∷ b.active) d (tt, d.held.active)

  pub clear-Deep : (b : Builder) → D b → D (clear_to_last_marker b)
  clear-Deep b d = with_active low md b _ d (without_marker-kept (Kept d.S d.L) b.active d.held.active)

  abbrev pub form-Deep : (b : Builder) (pointer : Option ℕ) → (d : D b) → IfSome (IsForm d.S d.L) pointer → D (record b { form = pointer })
  form-Deep b pointer d f = record {
    S = d.S;
    L = d.L;
    m = d.m;
    mode_is = d.mode_is;
    tg = d.tg;
    held = record { seats = d.held.seats; active = d.held.active; form = f; numbers = d.held.numbers; listed = d.held.listed; above = d.held.above };
    quiet = d.quiet;
  }

  -- texts, comments

  pub bytes-Deep : (bytes : List ℕ) (b : Builder) → D b → D (insert_bytes bytes b)
  bytes-Deep bytes b d = put-Deep low md (appropriate_place b) (and_text no_nodes (marked b.marks bytes)) b d (appropriate-Placed low md b d)

  pub character-Deep : (c : ℕ) (b : Builder) → D b → D (insert_character c b)
  character-Deep c b d = bytes-Deep (c ∷ []) b d

  pub comment-Deep : (bytes : Marked (List ℕ)) (b : Builder) → D b → D (insert_comment bytes b)
  comment-Deep bytes b d = put-Deep low md (appropriate_place b) (and_comment no_nodes bytes) b d (appropriate-Placed low md b d)

  pub alone-Deep : (t : Tag) (b : Builder) → D b → D (insert_and_pop t b)
  alone-Deep t b d = alone_at-Deep low md (appropriate_place b) t b d (appropriate-Placed low md b d)

  pub foreign-Deep : (space : Namespace) (t : Tag) (closes : Bool) (b : Builder) → by_space space true false false ≡ false → D b → D (insert_foreign_element space t closes b)
  foreign-Deep space t closes b e d =
      if_deep closes (insert_and_pop (foreign_tag space t) b) (insert_element (foreign_tag space t) b) (λ _. alone-Deep (foreign_tag space t) b d)
      (λ _. insert-Deep low md (foreign_tag space t) b (and_left (by_space space true false false) _ e) d)

  -- an element that holds text alone

  pub no_target : (g : Group) (t : Tag) → IsTiedTag g t → is_table_group g ≡ false → is_foster_target t ≡ false
  no_target g t k n = and_right (is_html t) _ (other_name (codes "table tbody tfoot thead tr") is_table_group g t.name (refl, (refl, (refl, (refl, (refl, tt))))) k.named n)

  pub raw_at-Stage : (place : Place) (g : Group) (t : Tag) (b : Builder) → IsTaking md → IsTiedTag g t → is_root_group g ≡ false → is_table_group g ≡ false → Placed low b.is_frameset_ok place → D b → Stage (parse_raw_text_at place t b)
  raw_at-Stage place g t b taking k n y z d =
      let p : Path = under place b.path in
      let ok : Bool = b.is_frameset_ok in
      let h = d.held in
      let s = wider-Seated d.S d.L b.next ok d.S d.L (suc b.next) ok (one_more d.S d.L b.next ok) (under-Seated place h.seats) in
      in_text (new_frame b.next t place) p (pushed_is place (new_frame b.next t place) b.path) (seated_some s) refl k.html (no_target g t k y) d.quiet.page
      (λ nodes. deep (record {
        S = d.S;
        L = d.L;
        m = d.m;
        mode_is = d.mode_is;
        tg = d.tg;
        held = record {
          seats = settled-Seated d.S d.L (suc b.next) ok (settled_at place nodes p) (settled_at-Seated d.S d.L (suc b.next) ok place nodes z s);
          active = h.active;
          form = h.form;
          numbers = later_numbers d.S b.next h.numbers;
          listed = later_listed d.L b.next h.listed;
          above = omega (arith, h.above);
        };
        quiet = record {
          fits = refit low d.tg b.mode b.original b.mode (subst IsTaking (sym d.mode_is) taking) d.quiet.fits;
          templates_fit = d.quiet.templates_fit;
          fostering = d.quiet.fostering;
          calm = d.quiet.calm;
          head = d.quiet.head;
          page = d.quiet.page;
          early = d.quiet.early;
        };
      }))

  pub raw_text-Stage : (g : Group) (t : Tag) (b : Builder) → IsTaking md → IsTiedTag g t → is_root_group g ≡ false → is_table_group g ≡ false → D b → Stage (parse_raw_text t b)
  raw_text-Stage g t b taking k n y d = raw_at-Stage (appropriate_place b) g t b taking k n y (appropriate-Placed low md b d) d

  -- a template

  pub template_Tagged : (t : Tag) → IsTiedTag a_template t → Tagged low false t
  template_Tagged t k = record {
    no_root = and_right (is_html t) _ (other_name (codes "html head") is_outer_group a_template t.name (refl, (refl, tt)) k.named refl);
    no_body = λ _. and_right (is_html t) _ (other_name (codes "body frameset") is_outer_group a_template t.name (refl, (refl, tt)) k.named refl);
    no_template = λ e. absurd (true≢false (sym e));
  }

  pub template_at-Deep : (place : Place) (t : Tag) (b : Builder) → Placed low b.is_frameset_ok place → IsTiedTag a_template t → D b → Deep low in_template (template_opened place t b)
  template_at-Deep place t b z k d =
      let ready : Builder = frameset_not_ok (insert_marker b) in
      let e : D ready = not_ok-Deep (insert_marker b) (marker-Deep b d) in
      let opened : D (insert_element_at place t ready) = insert_at-Deep low md place t ready e (narrower_place low b.is_frameset_ok false place (λ x. absurd (true≢false (sym x))) z) (template_Tagged t k) in
      record {
        S = opened.S;
        L = opened.L;
        m = opened.m;
        mode_is = refl;
        tg = opened.tg;
        held = opened.held;
        quiet = record {
          fits = tt;
          templates_fit = (tt, opened.quiet.templates_fit);
          fostering = opened.quiet.fostering;
          calm = λ x. absurd (true≢false (sym x));
          head = opened.quiet.head;
          page = opened.quiet.page;
          early = opened.quiet.early;
        };
      }

  pub template-Deep : (t : Tag) (b : Builder) → IsTiedTag a_template t → D b → Deep low in_template (template_opened (appropriate_place b) t b)
  template-Deep t b k d = template_at-Deep (appropriate_place b) t b (appropriate-Placed low md b d) k d

  -- elements of the head, further in
  pub html_start-Deep : (b : Builder) (t : Tag) → D b → D (html_start b t)
  html_start-Deep b t d = if_deep (has_template b) b (add_attributes 1 t.attributes b) (λ _. d) (λ _. attributes-Deep low md 1 t.attributes b d)

  pub head_part-Stage : (b : Builder) (g : Group) (t : Tag) → IsTaking md → IsTiedTag g t → is_head_part g ≡ true → D b → StageAfter (in_head_start b g t)
  head_part-Stage b a_base t k i e d = done (alone-Deep t b d)
  head_part-Stage b a_link t k i e d = done (alone-Deep t b d)
  head_part-Stage b a_title t k i e d = raw_text-Stage a_title t b k i refl refl d
  head_part-Stage b a_noframes t k i e d = raw_text-Stage a_noframes t b k i refl refl d
  head_part-Stage b a_style t k i e d = raw_text-Stage a_style t b k i refl refl d
  head_part-Stage b a_script t k i e d = raw_text-Stage a_script t b k i refl refl d
  head_part-Stage b a_template t k i e d = ground (deep (template-Deep t b i d))
  head_part-Stage b g t k i e d = absurd (true≢false (sym e))

  -- closings

  pub close_p-Deep : (b : Builder) → D b → D (close_p b)
  close_p-Deep b d =
      if_deep (has_in_button_scope is_paragraph b) (close_except_for is_paragraph is_paragraph b) b
      (λ e. close-Deep low md is_paragraph is_paragraph is_button_scope b no_bar_paragraph button_bounds (but_itself is_paragraph) e d) (λ _. d)

  pub close_in_scope-Deep : (but test : Tag → Bool) (b : Builder) → NoBar test → ((t : Tag) → test t ≡ true → (is_implied t && not (but t)) ≡ false) → D b → D (close_in_scope but test b)
  close_in_scope-Deep but test b n w d = if_deep (has_in_scope test b) (close_except_for but test b) b (λ e. close-Deep low md but test is_scope b n scope_bounds w e d) (λ _. d)

  pub heading_closed-Deep : (b : Builder) → D b → D (heading_closed b)
  heading_closed-Deep b d = if_deep (is_heading (current_tag b)) (pop_current_node b) b (λ e. pop-Deep low md is_heading b no_bar_heading e d) (λ _. d)

  -- an earlier item

  pub bar_bounds : (names : List ℕ) (bounds : Tag → Bool) (f : Frame) (path : Path) → NoBar (λ t. is_any names t) → ((t : Tag) → is_any bar_names t ≡ true → bounds t ≡ true) → f.is_open ≡ true → is_any bar_names f.tag ≡ true →
      earlier_item (λ t. is_any names t) bounds (elements (f ∷ path)) ≡ None
  bar_bounds names bounds f path n w o i =
      ap (λ (x : Bool). earlier_item (λ t. is_any names t) bounds (if x then f ∷ elements path else elements path)) o
      ∙ (ap (λ (x : Bool). if x then Some f.tag else if bounds f.tag then None else earlier_item (λ t. is_any names t) bounds (elements path)) (n f.tag i)
      ∙ ap (λ (x : Bool). if x then None else earlier_item (λ t. is_any names t) bounds (elements path)) (w f.tag i))

  pub item_found : {S L : List ℕ} {N : ℕ} {ok : Bool} {from m : ℕ} {tg : Tag} {path : Path} (names : List ℕ) (bounds : Tag → Bool) → NoBar (λ t. is_any names t) → ((t : Tag) → is_any bar_names t ≡ true → bounds t ≡ true) → Seated S L N ok from m tg path →
      IfSome (λ t. Sought S L N ok (λ _ x. is_named t.name x) from m tg path) (earlier_item (λ t. is_any names t) bounds (elements path))
  item_found {S} {L} {N} {ok} {from} {m} {tg} names bounds n w (high t rest b i r) =
      subst (IfSome (λ x. Sought S L N ok (λ _ y. is_named x.name y) 3 m tg (t ∷ rest))) (sym (bar_bounds names bounds t rest n w b.open_still (ap (λ x. is_any bar_names x) b.tag ∙ one_of_these S L N ok (codes "template") bar_names tg (refl, tt) i))) tt
  item_found {S} {L} {N} {ok} {from} {m} {tg} names bounds n w (bodied g h d b p i r a z e) =
      subst (IfSome (λ x. Sought S L N ok (λ _ y. is_named x.name y) 2 m tg (g ∷ h ∷ d ∷ []))) (sym (bar_bounds names bounds g (h ∷ d ∷ []) n w b.open_still (ap (λ x. is_any bar_names x) b.tag ∙ one_of_these S L N ok (codes "body frameset") bar_names tg (refl, (refl, tt)) i))) tt
  item_found {S} {L} {N} {ok} {from} {m} {tg} names bounds n w (rooted h d r e x b) =
      subst (IfSome (λ x. Sought S L N ok (λ _ y. is_named x.name y) 1 1 tg (h ∷ d ∷ []))) (sym (bar_bounds names bounds h (d ∷ []) n w r.open_still (html_is_bar S L N ok h.tag r.tag))) tt
  item_found {S} {L} {N} {ok} {from} {m} {tg} names bounds n w (cell f p b l i s) =
      subst (IfSome (λ x. Sought S L N ok (λ _ y. is_named x.name y) from m tg (f ∷ p))) (sym (bar_bounds names bounds f p n w b.open_still (ap (λ x. is_any bar_names x) b.tag ∙ one_of_these S L N ok (codes "td th") bar_names tg (refl, (refl, tt)) i))) tt
  item_found {S} {L} {N} {ok} {from} {m} {tg} names bounds n w (inside f p l s) =
      let further : IfSome (λ x. Sought S L N ok (λ _ y. is_named x.name y) from m tg (f ∷ p)) (earlier_item (λ t. is_any names t) bounds (elements p)) =
      some_map _ _ (earlier_item (λ t. is_any names t) bounds (elements p)) (λ x y. past f p l y) (item_found names bounds n w s) in
      elim (cases_Bool f.is_open) [
        | inr c ↦ subst (λ (v : Bool). IfSome (λ x. Sought S L N ok (λ _ y. is_named x.name y) from m tg (f ∷ p)) (earlier_item (λ t. is_any names t) bounds (if v then f ∷ elements p else elements p))) (sym c) further
        | inl o ↦ subst (λ (v : Bool). IfSome (λ x. Sought S L N ok (λ _ y. is_named x.name y) from m tg (f ∷ p)) (earlier_item (λ t. is_any names t) bounds (if v then f ∷ elements p else elements p))) (sym o)
            (cond_both (is_any names f.tag) (Some f.tag) (if bounds f.tag then None else earlier_item (λ t. is_any names t) bounds (elements p)) (IfSome (λ x. Sought S L N ok (λ _ y. is_named x.name y) from m tg (f ∷ p)))
            (λ e. found f p l o (and_from (is_html f.tag) (bytes_eq f.tag.name f.tag.name) (and_parts (is_html f.tag) (is_one_of names f.tag.name) e).0 ((bytes_eq-Decides f.tag.name f.tag.name).1 refl)) s)
            (λ _. cond_both (bounds f.tag) None (earlier_item (λ t. is_any names t) bounds (elements p)) (IfSome (λ x. Sought S L N ok (λ _ y. is_named x.name y) from m tg (f ∷ p))) (λ _. tt) (λ _. further)))
      ]

  pub item_at-Deep : (own : Option Tag) (b : Builder) → (d : D b) → IfSome (λ t. Sought d.S d.L b.next b.is_frameset_ok (λ _ x. is_named t.name x) low d.m d.tg b.path) own → D (item_closed_at own b)
  item_at-Deep None b d s = d
  item_at-Deep (Some t) b d s =
      on_path low md b (popped_through (has_tag (is_named t.name)) (implied_closed (is_named t.name) b.path)) d
      (popped_through-Seated d.S d.L b.next b.is_frameset_ok (λ _ x. is_named t.name x) (implied_closed (is_named t.name) b.path)
      (popped-Sought d.S d.L b.next b.is_frameset_ok (λ _ x. is_named t.name x) (λ _ x. is_implied x && not (is_named t.name x)) b.path b.path (λ _ x e. but_itself (is_named t.name) x e) s))

  pub item_closed-Deep : (names : List ℕ) (b : Builder) → NoBar (λ t. is_any names t) → D b → D (item_closed (λ t. is_any names t) b)
  item_closed-Deep names b n d =
      let found_is = item_found names (is_item_bound b.flags.counts_search) n (item_bound_bar b.flags.counts_search) d.held.seats in
      close_p-Deep (item_closed_at (earlier_item (λ t. is_any names t) (is_item_bound b.flags.counts_search) (elements b.path)) b)
      (item_at-Deep (earlier_item (λ t. is_any names t) (is_item_bound b.flags.counts_search) (elements b.path)) b d found_is)

  pub ruby_closed-Deep : (but : Tag → Bool) (b : Builder) → D b → D (ruby_closed but b)
  ruby_closed-Deep but b d = if_deep (has_in_scope (is_any (codes "ruby")) b) (generate_implied_end_tags_except_for but b) b (λ _. implied-Deep low md but b d) (λ _. d)

  pub body_start_at-Deep : (n : Option ℕ) (b : Builder) (t : Tag) → D b → D (body_start_at n b t)
  body_start_at-Deep None b t d = d
  body_start_at-Deep (Some n) b t d =
      if_deep (has_template b) b (frameset_not_ok (add_attributes n t.attributes b)) (λ _. d) (λ _. not_ok-Deep (add_attributes n t.attributes b) (attributes-Deep low md n t.attributes b d))

  -- forms: the number of one is taken, and not listed

  abbrev formed : List ℕ → ℕ → List ℕ
  formed S N = N ∷ S

  pub forming : (S L : List ℕ) (N : ℕ) (ok : Bool) → Wider S L N ok (N ∷ S) L (suc N) ok
  forming S L N ok = record {
    numbers = λ k l i. elim i [ inl e ↦ absurd (omega (arith, l, e)) | inr j ↦ j ];
    listed = λ k l i. i;
    more = omega arith;
    narrower = λ e. e;
  }

  pub kept_more_numbers : (S L : List ℕ) (N : ℕ) (entry : Entry) → Kept S L entry → Kept (N ∷ S) L entry
  kept_more_numbers S L N marker h = tt
  kept_more_numbers S L N (formatting k tag) h = ((inr h.0.0, h.0.1), h.1)

  pub not_listed : (L : List ℕ) (N : ℕ) → Each (λ k. k < N) L → IsIn N L → ⊥
  not_listed L N h i = omega (arith, each_in (λ k. k < N) N L h i)

  pub form_inserted : (t : Tag) (b : Builder) → IsFree t → D b → D (record (insert_element t b) { form = Some b.next })
  form_inserted t b f d =
      let h = d.held in
      let place : Place = appropriate_place b in
      let ok : Bool = b.is_frameset_ok in
      record {
        S = b.next ∷ d.S;
        L = d.L;
        m = d.m;
        mode_is = d.mode_is;
        tg = d.tg;
        held = record {
          seats = new-Seated (b.next ∷ d.S) d.L (suc b.next) ok b.next t place place b.path
              (new-Loose (b.next ∷ d.S) d.L low b.next ok t place h.above (appropriate-Placed low md b d) (plain-Tagged low ok t (free_plain t f)) (λ _. free_bar t f))
              (wider-Seated d.S d.L b.next ok (b.next ∷ d.S) d.L (suc b.next) ok (forming d.S d.L b.next ok) h.seats);
          active = each-weaken (Kept d.S d.L) (Kept (b.next ∷ d.S) d.L) b.active (kept_more_numbers d.S d.L b.next) h.active;
          form = record { number = inl refl; unlisted = not_listed d.L b.next h.listed };
          numbers = ((h.above, omega arith), later_numbers d.S b.next h.numbers);
          listed = later_listed d.L b.next h.listed;
          above = omega (arith, h.above);
        };
        quiet = d.quiet;
      }

  -- and that of one that is popped at once
  pub form_alone : (t : Tag) (b : Builder) → D b → D (record (insert_and_pop t b) { form = Some b.next })
  form_alone t b d =
      let h = d.held in
      let place : Place = appropriate_place b in
      let ok : Bool = b.is_frameset_ok in
      record {
        S = b.next ∷ d.S;
        L = d.L;
        m = d.m;
        mode_is = d.mode_is;
        tg = d.tg;
        held = record {
          seats = wider-Seated d.S d.L b.next ok (b.next ∷ d.S) d.L (suc b.next) ok (forming d.S d.L b.next ok)
              (put-Seated d.S d.L b.next ok place (and_element no_nodes t no_nodes) (appropriate-Placed low md b d) h.seats);
          active = each-weaken (Kept d.S d.L) (Kept (b.next ∷ d.S) d.L) b.active (kept_more_numbers d.S d.L b.next) h.active;
          form = record { number = inl refl; unlisted = not_listed d.L b.next h.listed };
          numbers = ((h.above, omega arith), later_numbers d.S b.next h.numbers);
          listed = later_listed d.L b.next h.listed;
          above = omega (arith, h.above);
        };
        quiet = d.quiet;
      }

  pub form_at-Deep : (is_within : Bool) (pointer : Option ℕ) (b : Builder) (t : Tag) → IsFree t → D b → D (form_at is_within pointer b t)
  form_at-Deep true pointer b t f d = insert-Deep low md t (close_p b) (free_plain t f) (close_p-Deep b d)
  form_at-Deep false (Some k) b t f d = d
  form_at-Deep false None b t f d = form_inserted t (close_p b) f (close_p-Deep b d)

  -- an element of a number leaves the stack, where it is listed no more

  pub taken-Deep : (k : ℕ) (b : Builder) → (d : D b) → IsIn k d.S → (IsIn k d.L → ⊥) → D (with_path b (taken_out k b.path))
  taken-Deep k b d i n =
      let ok : Bool = b.is_frameset_ok in
      on_path low md b (taken_out k b.path) d (settled-Seated d.S d.L b.next ok _ (left-Seated d.S d.L b.next ok k (number_above k d.held i).0 i n d.held.seats))

  pub form_taken_out-Deep : (pointer : Option ℕ) (b : Builder) → (d : D b) → IfSome (IsForm d.S d.L) pointer → D (form_taken_out pointer b)
  form_taken_out-Deep None b d f = d
  form_taken_out-Deep (Some k) b d f =
      let closing : Builder = generate_implied_end_tags b in
      if_deep (within (has_number k) (has_tag is_scope) (elements b.path)) (with_path closing (taken_out k closing.path)) b
      (λ _. taken-Deep k closing (implied-Deep low md no_tag b d) f.number f.unlisted) (λ _. d)

  pub form_ended-Deep : (b : Builder) → D b → D (form_ended b)
  form_ended-Deep b d =
      if_deep (has_template b) (close_in_scope no_tag (is_any (codes "form")) b) (form_taken_out b.form (record b { form = None }))
      (λ _. close_in_scope-Deep no_tag (is_any (codes "form")) b (no_bar_any (codes "form") (refl, (refl, (refl, (refl, (refl, (refl, tt))))))) (λ t e. unimplied no_tag t (any_not_implied (codes "form") t (refl, tt) e)) d)
      (λ _. form_taken_out-Deep b.form (record b { form = None }) (form-Deep b None d tt) d.held.form)

  -- an `a` that is listed

  abbrev without : ℕ → List ℕ → List ℕ
  without k [] = []
  without k (n ∷ L) = if n == k then without k L else n ∷ without k L

  pub without_in : (k j : ℕ) (L : List ℕ) → IsIn j (without k L) → IsIn j L
  without_in k j [] i = absurd i
  without_in k j (n ∷ L) i =
      cond_both (n == k) (without k L) (n ∷ without k L) (λ x. IsIn j x → IsIn j (n ∷ L)) (λ _ i. inr (without_in k j L i)) (λ _ i. elim i [ inl e ↦ inl e | inr y ↦ inr (without_in k j L y) ]) i

  pub without_out : (k : ℕ) (L : List ℕ) → IsIn k (without k L) → ⊥
  without_out k [] i = absurd i
  without_out k (n ∷ L) i =
      cond_both (n == k) (without k L) (n ∷ without k L) (λ x. IsIn k x → ⊥) (λ _ i. without_out k L i)
      (λ e i. elim i [ inl y ↦ true≢false (sym (ap (λ x. x == k) (sym y) ∙ same_number k) ∙ e) | inr y ↦ without_out k L y ]) i

  pub without_other : (k j : ℕ) (L : List ℕ) → (j == k) ≡ false → IsIn j L → IsIn j (without k L)
  without_other k j [] e i = absurd i
  without_other k j (n ∷ L) e i =
      cond_both (n == k) (without k L) (n ∷ without k L) (IsIn j)
      (λ y. elim i [ inl z ↦ absurd (true≢false (sym y ∙ (ap (λ x. x == k) (sym z) ∙ e))) | inr z ↦ without_other k j L e z ])
      (λ _. elim i [ inl z ↦ inl z | inr z ↦ inr (without_other k j L e z) ])

  pub unlisted_without : (S L : List ℕ) (k : ℕ) (entries : List Entry) → Each (Kept S L) entries → Each (Kept S (without k L)) (unlisted k entries)
  unlisted_without S L k [] h = tt
  unlisted_without S L k (marker ∷ entries) h = (tt, unlisted_without S L k entries h.1)
  unlisted_without S L k (formatting n tag ∷ entries) h =
      cond_both (n == k) (unlisted k entries) (formatting n tag ∷ unlisted k entries) (Each (Kept S (without k L))) (λ _. unlisted_without S L k entries h.1)
      (λ e. (((h.0.0.0, without_other k n L e h.0.0.1), h.0.1), unlisted_without S L k entries h.1))

  pub each_without : (P : ℕ → Type 0) (k : ℕ) (L : List ℕ) → Each P L → Each P (without k L)
  each_without P k [] h = tt
  each_without P k (n ∷ L) h = cond_both (n == k) (without k L) (n ∷ without k L) (Each P) (λ _. each_without P k L h.1) (λ _. (h.0, each_without P k L h.1))

  pub pointer_without : (S L : List ℕ) (k : ℕ) (pointer : Option ℕ) → IfSome (IsForm S L) pointer → IfSome (IsForm S (without k L)) pointer
  pointer_without S L k None f = tt
  pointer_without S L k (Some n) f = record { number = f.number; unlisted = λ i. f.unlisted (without_in k n L i) }

  pub unlisted-Deep : (k : ℕ) (b : Builder) → (d : D b) → IsIn k d.S → D (record b { active = unlisted k b.active; path = if is_open_number k b.path then taken_out k b.path else b.path })
  unlisted-Deep k b d i =
      let ok : Bool = b.is_frameset_ok in
      let L : List ℕ = without k d.L in
      let w : Wider d.S d.L b.next ok d.S L b.next ok = record { numbers = λ j l x. x; listed = λ j l x. without_in k j d.L x; more = omega arith; narrower = λ x. x } in
      let less : D (record b { active = unlisted k b.active }) = record {
        S = d.S;
        L = L;
        m = d.m;
        mode_is = d.mode_is;
        tg = d.tg;
        held = record {
          seats = wider-Seated d.S d.L b.next ok d.S L b.next ok w d.held.seats;
          active = unlisted_without d.S d.L k b.active d.held.active;
          form = pointer_without d.S d.L k b.form d.held.form;
          numbers = d.held.numbers;
          listed = each_without (λ n. n < b.next) k d.L d.held.listed;
          above = d.held.above;
        };
        quiet = d.quiet;
      } in
      cond_both (is_open_number k b.path) (taken_out k b.path) b.path (λ x. D (record b { active = unlisted k b.active; path = x }))
      (λ _. taken-Deep k (record b { active = unlisted k b.active }) less i (without_out k d.L)) (λ _. less)

  pub listed_same : (name : List ℕ) (entries : List Entry) → IfSome (λ (own : Listed). bytes_eq name own.tag.name ≡ true) (listed name entries)
  listed_same name [] = tt
  listed_same name (marker ∷ entries) = tt
  listed_same name (formatting k tag ∷ entries) =
      cond_both (bytes_eq name tag.name) (Some (record { number = k; tag = tag })) (listed name entries) (IfSome (λ (own : Listed). bytes_eq name own.tag.name ≡ true)) (λ e. e) (λ _. listed_same name entries)

  pub anchor_ended-Deep : (own : Option Listed) (b : Builder) → (d : D b) → IfSome (λ (x : Listed). IsIn x.number d.S × NoBar (is_named x.tag.name)) own → D (anchor_ended own b)
  anchor_ended-Deep None b d l = d
  anchor_ended-Deep (Some own) b d l =
      let ended = agency-Grew low md own.tag.name b l.1 d in
      unlisted-Deep own.number (adoption_agency own.tag.name b) ended.0 (ended.1 own.number l.0)

  pub listed_anchor : (S L : List ℕ) (name : List ℕ) (own : Option Listed) → group name ≡ an_anchor → IfSome (λ (x : Listed). Kept S L (formatting x.number x.tag)) own → IfSome (λ (x : Listed). bytes_eq name x.tag.name ≡ true) own →
      IfSome (λ (x : Listed). IsIn x.number S × NoBar (is_named x.tag.name)) own
  listed_anchor S L name None g h e = tt
  listed_anchor S L name (Some own) g h e = (h.0.0, no_bar_named an_anchor own.tag.name (ap group (sym ((bytes_eq-Decides name own.tag.name).0 e)) ∙ g) refl)

  pub nobr_ended-Deep : (name : List ℕ) (b : Builder) → NoBar (is_named name) → D b → D (nobr_ended name b)
  nobr_ended-Deep name b n d =
      if_deep (has_in_scope (is_named name) b) (reconstruct_formatting (adoption_agency name b)) b (λ _. reconstruct-Deep low md (adoption_agency name b) (agency-Deep low md name b n d)) (λ _. d)

  pub select_closed-Deep : (b : Builder) → D b → D (select_closed b)
  select_closed-Deep b d = if_deep (has_in_scope is_select b) (pop_until is_select b) b (λ e. until-Deep low md is_select is_scope b no_bar_select scope_bounds e d) (λ _. d)

  pub void_start-Deep : (b : Builder) (t : Tag) → D b → D (void_start b t)
  void_start-Deep b t d = not_ok-Deep (insert_and_pop t (reconstruct_formatting b)) (alone-Deep t (reconstruct_formatting b) (reconstruct-Deep low md b d))

  pub input_inserted-Deep : (t : Tag) (b : Builder) → D b → D (input_inserted t b)
  input_inserted-Deep t b d =
      let with_input : Builder = insert_and_pop t (reconstruct_formatting (select_closed b)) in
      let e : D with_input = alone-Deep t (reconstruct_formatting (select_closed b)) (reconstruct-Deep low md (select_closed b) (select_closed-Deep b d)) in
      if_deep (has_value (codes "type") (codes "hidden") t.attributes) with_input (frameset_not_ok with_input) (λ _. e) (λ _. not_ok-Deep with_input e)

  pub select_start-Deep : (b : Builder) (t : Tag) → IsPlain t → D b → D (select_start b t)
  select_start-Deep b t p d =
      if_deep (is_context is_select b.context) b _ (λ _. d)
      (λ _. if_deep (has_in_scope is_select b) (pop_until is_select b) (frameset_not_ok (insert_element t (reconstruct_formatting b))) (λ e. until-Deep low md is_select is_scope b no_bar_select scope_bounds e d)
      (λ _. not_ok-Deep (insert_element t (reconstruct_formatting b)) (insert-Deep low md t (reconstruct_formatting b) p (reconstruct-Deep low md b d))))

  pub option_ended-Deep : (but : Tag → Bool) (b : Builder) → D b → D (option_ended but b)
  option_ended-Deep but b d =
      if_deep (has_in_scope is_select b) (generate_implied_end_tags_except_for but b) _ (λ _. implied-Deep low md but b d)
      (λ _. if_deep (is_any (codes "option") (current_tag b)) (pop_current_node b) b
      (λ e. pop-Deep low md (λ t. is_any (codes "option") t) b (no_bar_any (codes "option") (refl, (refl, (refl, (refl, (refl, (refl, tt))))))) e d) (λ _. d))

  pub option_start-Deep : (but : Tag → Bool) (b : Builder) (t : Tag) → IsPlain t → D b → D (option_start but b t)
  option_start-Deep but b t p d = insert-Deep low md t (reconstruct_formatting (option_ended but b)) p (reconstruct-Deep low md (option_ended but b) (option_ended-Deep but b d))

  pub rule_start-Deep : (b : Builder) (t : Tag) → D b → D (rule_start b t)
  rule_start-Deep b t d =
      alone-Deep t (if has_in_scope is_select b then generate_implied_end_tags b else b) (if_deep (has_in_scope is_select b) (generate_implied_end_tags b) b (λ _. implied-Deep low md no_tag b d) (λ _. d))

  pub noscript_start-Stage : (b : Builder) (t : Tag) → IsTaking md → IsTiedTag a_noscript t → D b → Stage (noscript_start_in_body b t)
  noscript_start-Stage b t k i d =
      cond_both b.flags.is_scripting (parse_raw_text t b) (insert_element t (reconstruct_formatting b)) Stage (λ _. raw_text-Stage a_noscript t b k i refl refl d)
      (λ _. done (insert-Deep low md t (reconstruct_formatting b) (plain_of a_noscript t i refl) (reconstruct-Deep low md b d)))

  pub table_start-Deep : (b : Builder) (t : Tag) → IsPlain t → D b → Deep low in_table (table_start_in_body b t)
  table_start-Deep b t p d =
      let closed : Builder = if b.is_quirks then b else close_p b in
      let e : D closed = if_deep b.is_quirks b (close_p b) (λ _. d) (λ _. close_p-Deep b d) in
      let put : D (frameset_not_ok (insert_element t closed)) = not_ok-Deep (insert_element t closed) (insert-Deep low md t closed p e) in
      switch-Deep in_table (frameset_not_ok (insert_element t closed)) put tt (λ x. absurd (true≢false (sym x)))

  -- end tags

  pub p_ended-Deep : (b : Builder) → D b → D (p_ended b)
  p_ended-Deep b d =
      cond_both (has_in_button_scope is_paragraph b) b (insert_implied (codes "p") b) (λ x. D (close_except_for is_paragraph is_paragraph x))
      (λ e. close-Deep low md is_paragraph is_paragraph is_button_scope b no_bar_paragraph button_bounds (but_itself is_paragraph) e d)
      (λ _. let put : D (insert_element (bare_tag (codes "p")) b) = insert-Deep low md (bare_tag (codes "p")) b refl d in
      close-Deep low md is_paragraph is_paragraph is_button_scope (insert_element (bare_tag (codes "p")) b) no_bar_paragraph button_bounds (but_itself is_paragraph)
      (ap (λ x. within (has_tag is_paragraph) (has_tag is_button_scope) (elements x)) (pushed_is (appropriate_place b) (new_frame b.next (bare_tag (codes "p")) (appropriate_place b)) b.path)) put)

  pub item_ended-Deep : (b : Builder) → D b → D (item_ended b)
  item_ended-Deep b d =
      if_deep (has_in_list_item_scope (is_any (codes "li")) b) (close_except_for (is_any (codes "li")) (is_any (codes "li")) b) b
      (λ e. close-Deep low md (λ t. is_any (codes "li") t) (λ t. is_any (codes "li") t) is_list_scope b (no_bar_any (codes "li") (refl, (refl, (refl, (refl, (refl, (refl, tt))))))) list_bounds (but_itself (λ t. is_any (codes "li") t)) e d) (λ _. d)

  pub named-Deep : (g : Group) (name : List ℕ) (b : Builder) → group name ≡ g → is_bar_group g ≡ false → is_implied_group g ≡ false → D b → D (close_in_scope no_tag (is_named name) b)
  named-Deep g name b k n i d = close_in_scope-Deep no_tag (is_named name) b (no_bar_named g name k n) (λ t e. unimplied no_tag t (named_not_implied g name t k i e)) d

  pub mark_ended-Deep : (name : List ℕ) (b : Builder) → group name ≡ a_mark → D b → D (mark_ended name b)
  mark_ended-Deep name b k d =
      if_deep (has_in_scope (is_named name) b) (clear_to_last_marker (close_except_for no_tag (is_named name) b)) b
      (λ e. clear-Deep (close_except_for no_tag (is_named name) b)
      (close-Deep low md no_tag (is_named name) is_scope b (no_bar_named a_mark name k refl) scope_bounds (λ t x. unimplied no_tag t (named_not_implied a_mark name t k refl x)) e d)) (λ _. d)

  pub body_character-Deep : (c : ℕ) (b : Builder) → D b → D (body_character c b)
  body_character-Deep c b d =
      let r : D (reconstruct_formatting b) = reconstruct-Deep low md b d in
      if_deep (c == 0) b _ (λ _. d)
      (λ _. if_deep (is_ascii_whitespace c) (insert_character c (reconstruct_formatting b)) (frameset_not_ok (insert_character c (reconstruct_formatting b)))
      (λ _. character-Deep c (reconstruct_formatting b) r) (λ _. not_ok-Deep (insert_character c (reconstruct_formatting b)) (character-Deep c (reconstruct_formatting b) r)))
