-- The rules of the modes in the head and after it, before the body: what is there is `html` with its head, and then a body is put in.
use Rattle.tl_dom_spec.proofs.SeatedRules.{IsTied}
use Rattle.tl_dom_spec.specs.Reset.{close_template, template_end_tag}
use Rattle.tl_dom_spec.proofs.SeatedBody.{IsSome_path, Stage, StageAfter, ground, if_after, in_text, is_table_group}
use Rattle.tl_dom_spec.proofs.GroupNames.{IsTiedTag, any_of, name_of, other_name}
use Rattle.tl_dom_spec.specs.Lawful.{IsIn}
use Rattle.tl_dom_spec.specs.Groups.{Group, a_base, a_frameset, a_link, a_noframes, a_noscript, a_script, a_style, a_template, a_title, the_body, the_head, the_html}
use Rattle.std.proofs.Common.{Bool, List, [], ap, arith, codes, false, if◌then◌else◌, refl, subst, suc, sym, true, true≢false, ℕ, ◌<◌, ◌∙◌, ◌∷◌, ◌≡◌}
use Rattle.std.specs.Char.{is_ascii_whitespace}
use Rattle.std.proofs.lemmas.Bool.{and_parts, and_right, cond_both}
use Rattle.tl_html_spec.specs.Balanced.{is_one_of, words}
use Rattle.tl_dom_spec.specs.Tags.{Tag, bare_tag, is_any, is_foster_target, is_html, is_implied_thoroughly, is_template}
use Rattle.tl_dom_spec.specs.Marks.{Marked, marked}
use Rattle.tl_dom_spec.specs.Path.{Frame, Nodes, Path, Place, and_comment, and_element, and_text, at_head, caught_up, elements, foster_place, has_tag, here, into_head, joined, new_frame, no_frame, no_nodes, node_of, on_top, place_in, popped, popped_while, put, settled, settled_at, top, with_nodes, within}
use Rattle.tl_dom_spec.specs.Builder.{Again, Builder, Done, Mode, Token, a_character, a_comment, a_doctype, a_start, add_attributes, after_head, an_end, end_of_file, frameset_not_ok, has_template, in_body, in_frameset, in_head, in_head_noscript, in_template, insert_and_pop, insert_and_pop_at, insert_character, insert_comment, insert_element, insert_element_at, marker, parse_raw_text, parse_raw_text_at, switch_to, with_path}
use Rattle.tl_dom_spec.specs.Head.{after_head_step, body_implied, head_closed, in_head_step, is_body_end, noscript_in_head, template_opened}
use Rattle.tl_dom_spec.proofs.Allowed.{Each}
use Rattle.tl_dom_spec.proofs.Words.{any_word}
use Rattle.tl_dom_spec.proofs.SeatedPaths.{AreComments, IsBody, IsDocument, IsHeadFrame, IsRoot, Rest, Seated, at_head-alone, behind_head, bodied, high, joined-alone, rest-more, under_head, with_text-alone}
use Rattle.tl_dom_spec.proofs.SeatedBuilders.{DeepOf, Fits, is_calm, later_listed, later_numbers, number_fresh}
use Rattle.tl_dom_spec.proofs.Grounds.{Early, EarlyOf, Ground, deep, headed, heading, in_noscript, no_open, not_these, rest-settled, rest-stays, root_none}

-- neither `html` nor `head` is a target of foster parenting

no_target : (names : List ℕ) (t : Tag) → Each (λ name. is_one_of (codes "table tbody tfoot thead tr") name ≡ false) (words names) → is_any names t ≡ true → is_foster_target t ≡ false
no_target names t k e =
    and_right (is_html t) _ (any_word (λ name. is_one_of (codes "table tbody tfoot thead tr") name ≡ false) (words names) t.name k (and_parts (is_html t) (is_one_of names t.name) e).1)

rest_target : (place : Place) (path : Path) → Rest place path → is_foster_target (top path).tag ≡ false
rest_target place path (under_head f h d q r i w e) = no_target (codes "head") f.tag (refl, tt) q.tag
rest_target place path (behind_head h d r i w e) = no_target (codes "html") h.tag (refl, tt) r.tag

pub rest_place : (is_fostering : Bool) (place : Place) (path : Path) → Rest place path → place_in is_fostering path ≡ here
rest_place is_fostering place path r =
    ap (λ (x : Bool). if x then foster_place path else here) (and_right is_fostering _ (rest_target place path r))

-- what goes into the open head

head-put : (path : Path) (nodes : Nodes) → Rest here path → Rest here (put here nodes path)
head-put path nodes (under_head f h d q r i w e) =
    under_head (with_nodes nodes (caught_up f)) h d (record { number = q.number; open_still = q.open_still; tag = q.tag; place = q.place }) r i w e

head-caught : (path : Path) → Rest here path → Rest here (on_top caught_up path)
head-caught path (under_head f h d q r i w e) = under_head (caught_up f) h d (record { number = q.number; open_still = q.open_still; tag = q.tag; place = q.place }) r i w e

pub one_later : (b : Builder) → Early b → EarlyOf b.active (suc b.next) b.form b.is_frameset_ok b.templates b.is_fostering b.has_head b.context
one_later b y = record {
  S = y.S;
  L = y.L;
  active = y.active;
  form = y.form;
  numbers = later_numbers y.S b.next y.numbers;
  listed = later_listed y.L b.next y.listed;
  above = omega (arith, y.above);
  templates_fit = y.templates_fit;
  fostering = y.fostering;
  head = y.head;
  page = y.page;
}

pub head_put : (b : Builder) (nodes : Nodes) → b.mode ≡ in_head → Rest here b.path → Early b → Ground (with_path b (put (place_in b.is_fostering b.path) nodes b.path))
head_put b nodes e r y = subst (λ x. Ground (with_path b (put x nodes b.path))) (sym (rest_place b.is_fostering here b.path r)) (heading e (head-put b.path nodes r) y)

pub head_alone : (b : Builder) (t : Tag) → b.mode ≡ in_head → Rest here b.path → Early b → Ground (insert_and_pop t b)
head_alone b t e r y =
    subst (λ x. Ground (insert_and_pop_at x t b)) (sym (rest_place b.is_fostering here b.path r)) (heading e (head-put b.path (and_element no_nodes t no_nodes) r) (one_later b y))

-- the head is closed, and behind it is room for comments and white space

head_off : (f h d : Frame) → IsHeadFrame f → IsRoot h → AreComments h.children → AreComments h.waiting → IsDocument d → Rest into_head (popped (f ∷ h ∷ d ∷ []))
head_off f h d q r i w e =
    let c : Frame = caught_up (with_nodes (node_of f) h) in
    subst (λ x. Rest into_head (settled (settled_at x (node_of f) (h ∷ d ∷ [])))) (sym q.place)
    (subst (Rest into_head) (sym (rest-stays c (d ∷ []) (c ∷ d ∷ []) r.open_still))
    (behind_head c d (record { number = r.number; open_still = r.open_still; tag = r.tag; place = r.place }) (joined-alone (joined h.children (node_of f)) h.waiting (q.tag, i) w) tt e))

head-closed : (path : Path) → Rest here path → Rest into_head (popped path)
head-closed path (under_head f h d q r i w e) = head_off f h d q r i w e

pub head_closed-Ground : (b : Builder) → Rest here b.path → Early b → Ground (head_closed b)
head_closed-Ground b r y = headed refl (head-closed b.path r) y

-- behind the head

behind-note : (path : Path) (bytes : Marked (List ℕ)) → Rest into_head path → Rest into_head (put here (and_comment no_nodes bytes) path)
behind-note path bytes (behind_head h d r i w e) =
    behind_head (with_nodes (and_comment no_nodes bytes) (caught_up h)) d (record { number = r.number; open_still = r.open_still; tag = r.tag; place = r.place }) (joined-alone h.children h.waiting i w) tt e

behind-blank : (path : Path) (n c : ℕ) → is_ascii_whitespace c ≡ true → Rest into_head path → Rest into_head (put here (and_text no_nodes (marked n (c ∷ []))) path)
behind-blank path n c s (behind_head h d r i w e) =
    behind_head (with_nodes (and_text no_nodes (marked n (c ∷ []))) (caught_up h)) d (record { number = r.number; open_still = r.open_still; tag = r.tag; place = r.place })
    (with_text-alone (joined h.children h.waiting) (marked n (c ∷ [])) (s, tt) (joined-alone h.children h.waiting i w)) tt e

pub behind_comment : (b : Builder) (bytes : Marked (List ℕ)) → b.mode ≡ after_head → Rest into_head b.path → Early b → Ground (insert_comment bytes b)
behind_comment b bytes e r y =
    subst (λ x. Ground (with_path b (put x (and_comment no_nodes bytes) b.path))) (sym (rest_place b.is_fostering into_head b.path r)) (headed e (behind-note b.path bytes r) y)

pub behind_character : (b : Builder) (c : ℕ) → is_ascii_whitespace c ≡ true → b.mode ≡ after_head → Rest into_head b.path → Early b → Ground (insert_character c b)
behind_character b c s e r y =
    subst (λ x. Ground (with_path b (put x (and_text no_nodes (marked b.marks (c ∷ []))) b.path))) (sym (rest_place b.is_fostering into_head b.path r)) (headed e (behind-blank b.path b.marks c s r) y)

pub raw_target : (g : Group) (t : Tag) → IsTiedTag g t → is_table_group g ≡ false → is_foster_target t ≡ false
raw_target g t k n = and_right (is_html t) _ (other_name (codes "table tbody tfoot thead tr") is_table_group g t.name (refl, (refl, (refl, (refl, (refl, tt))))) k.named n)

-- an element that holds text alone is opened, in the head or to go to its end

rest_some : (place : Place) (path : Path) → Rest place path → IsSome_path path
rest_some place path (under_head f h d q r i w e) = (f, h ∷ d ∷ [], refl)
rest_some place path (behind_head h d r i w e) = (h, d ∷ [], refl)

pub head_raw : (g : Group) (b : Builder) (t : Tag) → b.mode ≡ in_head → IsTiedTag g t → is_table_group g ≡ false → Rest here b.path → Early b → Stage (parse_raw_text t b)
head_raw g b t e k n r y =
    let p : Path = on_top caught_up b.path in
    let s : Rest here p = head-caught b.path r in
    subst (λ x. Stage (parse_raw_text_at x t b)) (sym (rest_place b.is_fostering here b.path r))
    (in_text (new_frame b.next t here) p refl (rest_some here p s) refl k.html (raw_target g t k n) y.page (λ nodes. heading e (rest-settled here p nodes s) (one_later b y)))

pub behind_raw : (g : Group) (b : Builder) (t : Tag) → b.mode ≡ after_head → IsTiedTag g t → is_table_group g ≡ false → Rest into_head b.path → Early b → Stage (parse_raw_text_at into_head t b)
behind_raw g b t e k n r y =
    in_text (new_frame b.next t into_head) b.path refl (rest_some into_head b.path r) refl k.html (raw_target g t k n) y.page (λ nodes. headed e (rest-settled into_head b.path nodes r) (one_later b y))

-- a template is opened there, which stays

template-Early : (place : Place) (b : Builder) (t : Tag) (rest : Path) → IsTiedTag a_template t → Rest place rest → Early b →
    DeepOf 3 in_template (new_frame b.next t place ∷ rest) (marker ∷ b.active) (suc b.next) b.form false in_template b.original (in_template ∷ b.templates) b.is_fostering b.has_head b.context
template-Early place b t rest k r y = record {
  S = y.S;
  L = y.L;
  m = b.next;
  mode_is = refl;
  tg = t;
  held = record {
    seats = high (new_frame b.next t place) rest (record { number = refl; above = y.above; below = omega arith; open_still = refl; tag = refl; bars = number_fresh y.S b.next y.numbers })
        (any_of (codes "template") (codes "template") t refl k.html (name_of a_template t.name k.named)) r;
    active = (tt, y.active);
    form = y.form;
    numbers = later_numbers y.S b.next y.numbers;
    listed = later_listed y.L b.next y.listed;
    above = omega (arith, y.above);
  };
  quiet = record {
    fits = tt;
    templates_fit = (tt, y.templates_fit);
    fostering = λ _. refl;
    calm = λ e. absurd (true≢false (sym e));
    head = y.head;
    page = y.page;
    early = λ _. refl;
  };
}

pub behind_template : (b : Builder) (t : Tag) → IsTiedTag a_template t → Rest into_head b.path → Early b → Ground (template_opened into_head t b)
behind_template b t k r y = deep (template-Early into_head b t b.path k r y)

pub head_template : (b : Builder) (t : Tag) → IsTiedTag a_template t → Rest here b.path → Early b → Ground (template_opened (place_in b.is_fostering b.path) t b)
head_template b t k r y =
    subst (λ x. Ground (template_opened x t b)) (sym (rest_place b.is_fostering here b.path r)) (deep (template-Early here b t (on_top caught_up b.path) k (head-caught b.path r) y))

-- `body` or `frameset` is put in

body-at : (S L : List ℕ) (N : ℕ) (ok : Bool) (t : Tag) (path : Path) → 2 < N → (IsIn N S → ⊥) → IsBody t → Rest into_head path → Seated S L (suc N) ok 2 N t (new_frame N t here ∷ on_top caught_up path)
body-at S L N ok t path a n i (behind_head h d r k w e) =
    bodied (new_frame N t here) (caught_up h) d (record { number = refl; above = a; below = omega arith; open_still = refl; tag = refl; bars = n }) refl i
    (record { number = r.number; open_still = r.open_still; tag = r.tag; place = r.place }) (joined-alone h.children h.waiting k w) (λ _. tt) e

body-Early : (mode : Mode) (b : Builder) (t : Tag) → IsBody t → Fits 2 t mode b.original → is_calm mode ≡ true → Rest into_head b.path → Early b →
    DeepOf 2 mode (new_frame b.next t here ∷ on_top caught_up b.path) b.active (suc b.next) b.form b.is_frameset_ok mode b.original b.templates b.is_fostering b.has_head b.context
body-Early mode b t i f c r y = record {
  S = y.S;
  L = y.L;
  m = b.next;
  mode_is = refl;
  tg = t;
  held = record {
    seats = body-at y.S y.L b.next b.is_frameset_ok t b.path y.above (number_fresh y.S b.next y.numbers) i r;
    active = y.active;
    form = y.form;
    numbers = later_numbers y.S b.next y.numbers;
    listed = later_listed y.L b.next y.listed;
    above = omega (arith, y.above);
  };
  quiet = record { fits = f; templates_fit = y.templates_fit; fostering = y.fostering; calm = λ _. c; head = y.head; page = y.page; early = λ x. absurd (omega (arith, x)) };
}

pub body_opened-Ground : (mode : Mode) (b : Builder) (t : Tag) → IsBody t → Fits 2 t mode b.original → is_calm mode ≡ true → Rest into_head b.path → Early b → Ground (switch_to mode (insert_element t b))
body_opened-Ground mode b t i f c r y =
    subst (λ x. Ground (switch_to mode (insert_element_at x t b))) (sym (rest_place b.is_fostering into_head b.path r)) (deep (body-Early mode b t i f c r y))

-- the rules of "in head", where nothing else is open in it

rest_no_template : (place : Place) (path : Path) → Rest place path → within (has_tag is_template) no_frame (elements path) ≡ false
rest_no_template place path (under_head f h d q r i w e) =
    no_open f (h ∷ d ∷ []) q.open_still (not_these (codes "head") f.tag (refl, tt) q.tag) ∙ root_none h d r e
rest_no_template place path (behind_head h d r i w e) = root_none h d r e

no_template_end : (place : Place) (b : Builder) → Rest place b.path → Stage b → Stage (template_end_tag b)
no_template_end place b r s =
    cond_both (has_template b) (close_template (with_path b (popped_while (λ (f : Frame). is_implied_thoroughly f.tag) b.path))) b Stage
    (λ e. absurd (true≢false (sym e ∙ rest_no_template place b.path r))) (λ _. s)

noscript-Stage : (b : Builder) (t : Tag) → b.mode ≡ in_head → IsTiedTag a_noscript t → Rest here b.path → Early b → Stage (noscript_in_head b t)
noscript-Stage b t e k r y =
    cond_both b.flags.is_scripting (parse_raw_text t b) (switch_to in_head_noscript (insert_element t b)) Stage (λ _. head_raw a_noscript b t e k refl r y)
    (λ _. subst (λ x. Stage (switch_to in_head_noscript (insert_element_at x t b))) (sym (rest_place b.is_fostering here b.path r))
    (ground (in_noscript (new_frame b.next t here) (on_top caught_up b.path) refl refl (record { place = refl; open_still = refl; html = k.html; target = raw_target a_noscript t k refl }) (head-caught b.path r) (one_later b y))))

pub in_head_step-Stage : (b : Builder) (token : Token) → b.mode ≡ in_head → IsTied token → Rest here b.path → Early b → StageAfter (in_head_step b token)
in_head_step-Stage b (a_character c) e k r y = if_after (is_ascii_whitespace c) (Done (insert_character c b)) (Again (head_closed b)) (λ _. ground (head_put b (and_text no_nodes (marked b.marks (c ∷ []))) e r y)) (λ _. ground (head_closed-Ground b r y))
in_head_step-Stage b (a_comment bytes) e k r y = ground (head_put b (and_comment no_nodes bytes) e r y)
in_head_step-Stage b (a_doctype own) e k r y = ground (heading e r y)
in_head_step-Stage b (a_start the_html t closes) e k r y =
    cond_both (has_template b) b (add_attributes 1 t.attributes b) Stage (λ _. ground (heading e r y)) (λ _. ground (heading e (rest-more [] [] 0 true 1 t.attributes r) y))
in_head_step-Stage b (a_start the_head t closes) e k r y = ground (heading e r y)
in_head_step-Stage b (a_start a_noscript t closes) e k r y = noscript-Stage b t e k r y
in_head_step-Stage b (a_start a_base t closes) e k r y = ground (head_alone b t e r y)
in_head_step-Stage b (a_start a_link t closes) e k r y = ground (head_alone b t e r y)
in_head_step-Stage b (a_start a_title t closes) e k r y = head_raw a_title b t e k refl r y
in_head_step-Stage b (a_start a_noframes t closes) e k r y = head_raw a_noframes b t e k refl r y
in_head_step-Stage b (a_start a_style t closes) e k r y = head_raw a_style b t e k refl r y
in_head_step-Stage b (a_start a_script t closes) e k r y = head_raw a_script b t e k refl r y
in_head_step-Stage b (a_start a_template t closes) e k r y = ground (head_template b t k r y)
in_head_step-Stage b (a_start g t closes) e k r y = ground (head_closed-Ground b r y)
in_head_step-Stage b (an_end the_head name) e k r y = ground (head_closed-Ground b r y)
in_head_step-Stage b (an_end a_template name) e k r y = no_template_end here b r (ground (heading e r y))
in_head_step-Stage b (an_end g name) e k r y = if_after (is_body_end g) (Again (head_closed b)) (Done b) (λ _. ground (head_closed-Ground b r y)) (λ _. ground (heading e r y))
in_head_step-Stage b end_of_file e k r y = ground (head_closed-Ground b r y)

-- the rules of "after head", before the body

behind-part : (path : Path) (nodes : Nodes) → Rest into_head path → Rest into_head (put into_head nodes path)
behind-part path nodes (behind_head h d r i w e) =
    behind_head (record h { children = at_head h.children nodes }) d (record { number = r.number; open_still = r.open_still; tag = r.tag; place = r.place }) (at_head-alone h.children nodes i) w e

not_ok-Early : (b : Builder) → Early b → Early (frameset_not_ok b)
not_ok-Early b y = record {
  S = y.S;
  L = y.L;
  active = y.active;
  form = y.form;
  numbers = y.numbers;
  listed = y.listed;
  above = y.above;
  templates_fit = y.templates_fit;
  fostering = λ _. refl;
  head = y.head;
  page = y.page;
}

body_implied-Ground : (b : Builder) → Rest into_head b.path → Early b → Ground (switch_to in_body (insert_element (bare_tag (codes "body")) b))
body_implied-Ground b r y = body_opened-Ground in_body b (bare_tag (codes "body")) refl tt refl r y

pub after_head_step-Stage : (b : Builder) (token : Token) → b.mode ≡ after_head → IsTied token → Rest into_head b.path → Early b → StageAfter (after_head_step b token)
after_head_step-Stage b (a_character c) e k r y = if_after (is_ascii_whitespace c) (Done (insert_character c b)) (body_implied b) (λ s. ground (behind_character b c s e r y)) (λ _. ground (body_implied-Ground b r y))
after_head_step-Stage b (a_comment bytes) e k r y = ground (behind_comment b bytes e r y)
after_head_step-Stage b (a_doctype own) e k r y = ground (headed e r y)
after_head_step-Stage b (a_start the_html t closes) e k r y =
    cond_both (has_template b) b (add_attributes 1 t.attributes b) Stage (λ _. ground (headed e r y)) (λ _. ground (headed e (rest-more [] [] 0 true 1 t.attributes r) y))
after_head_step-Stage b (a_start the_body t closes) e k r y =
    ground (body_opened-Ground in_body (frameset_not_ok b) t (any_of (codes "body frameset") (codes "body") t refl k.html (name_of the_body t.name k.named)) tt refl r (not_ok-Early b y))
after_head_step-Stage b (a_start a_frameset t closes) e k r y =
    ground (body_opened-Ground in_frameset b t (any_of (codes "body frameset") (codes "frameset") t refl k.html (name_of a_frameset t.name k.named)) (omega arith) refl r y)
after_head_step-Stage b (a_start the_head t closes) e k r y = ground (headed e r y)
after_head_step-Stage b (a_start a_base t closes) e k r y = ground (headed e (behind-part b.path (and_element no_nodes t no_nodes) r) (one_later b y))
after_head_step-Stage b (a_start a_link t closes) e k r y = ground (headed e (behind-part b.path (and_element no_nodes t no_nodes) r) (one_later b y))
after_head_step-Stage b (a_start a_title t closes) e k r y = behind_raw a_title b t e k refl r y
after_head_step-Stage b (a_start a_noframes t closes) e k r y = behind_raw a_noframes b t e k refl r y
after_head_step-Stage b (a_start a_style t closes) e k r y = behind_raw a_style b t e k refl r y
after_head_step-Stage b (a_start a_script t closes) e k r y = behind_raw a_script b t e k refl r y
after_head_step-Stage b (a_start a_template t closes) e k r y = ground (behind_template b t k r y)
after_head_step-Stage b (a_start g t closes) e k r y = ground (body_implied-Ground b r y)
after_head_step-Stage b (an_end a_template name) e k r y = no_template_end into_head b r (ground (headed e r y))
after_head_step-Stage b (an_end g name) e k r y = if_after (is_body_end g) (body_implied b) (Done b) (λ _. ground (body_implied-Ground b r y)) (λ _. ground (headed e r y))
after_head_step-Stage b end_of_file e k r y = ground (body_implied-Ground b r y)
