-- A page from its start on: before `html`, before `head`, and then what holds further in. And at its end the body is there.
use Rattle.std.proofs.Common.{Bool, List, None, Option, [], ap, arith, codes, false, if◌then◌else◌, refl, subst, suc, sym, true, true≢false, zero, ℕ, ◌&&◌, ◌∙◌, ◌∷◌, ◌≡◌}
use Rattle.std.specs.Prelude.{nat_lt}
use Rattle.std.specs.Char.{is_ascii_whitespace}
use Rattle.std.proofs.lemmas.Bool.{and_parts, cond_both}
use Rattle.tl_html_spec.specs.Balanced.{is_one_of}
use Rattle.tl_dom_spec.specs.Tags.{Tag, bare_tag, is_html}
use Rattle.tl_dom_spec.specs.Groups.{the_head, the_html}
use Rattle.tl_dom_spec.specs.Path.{Frame, Nodes, Path, Place, and_comment, and_doctype, and_element, and_text, at_number, caught_up, document, here, into_head, joined, new_frame, no_nodes, on_top, place_in, put, top, with_nodes}
use Rattle.tl_dom_spec.specs.Builder.{Again, Builder, Done, Entry, Flags, Mode, Outcome, Token, a_character, a_comment, a_doctype, a_start, add_attributes, add_one, adjusted_current_node, adjusted_tag, after_head, an_end, before_head, before_html, end_of_file, has_template, in_head, in_head_noscript, initial, insert_element_at, repeated, switch_to, text_mode, with_more, with_path}
use Rattle.tl_dom_spec.specs.Head.{before_head_step, before_html_step, head_implied, head_opened, html_implied, html_opened, html_start, initial_step, is_head_end, without_doctype}
use Rattle.tl_dom_spec.specs.Dispatcher.{bound, calm, count_token, dispatch, excess_of, foreign_step, html_step, is_html_content, is_line_feed, mode_step, numbered, marks_behind, token_done, tokens_done}
use Rattle.tl_dom_spec.specs.HtmlTree.{page_start}
use Rattle.tl_dom_spec.proofs.Allowed.{Each}
use Rattle.tl_dom_spec.proofs.DispatcherRules.{html_content}
use Rattle.tl_dom_spec.proofs.SeatedPaths.{AreComments, ArePlain, IsDocument, IsHead, IsHtml, IsRoot, Rest, behind_head, document-more, joined-comments, joined-plain, root-more, same_children, same_waiting, under_head}
use Rattle.tl_dom_spec.proofs.SeatedBuilders.{IfSome, IsForm, IsTemplateMode, Kept}
use Rattle.tl_dom_spec.proofs.GroupNames.{any_of, name_of}
use Rattle.tl_dom_spec.proofs.Grounds.{EarlyOf, Ground, deep, headed, heading, in_noscript}
use Rattle.tl_dom_spec.proofs.SeatedBody.{Stage, StageAfter, ground, in_text}
use Rattle.tl_dom_spec.proofs.SeatedRules.{IsTied}
use Rattle.tl_dom_spec.proofs.SeatedHead.{after_head_step-Stage, in_head_step-Stage}
use Rattle.tl_dom_spec.proofs.SeatedText.{in_head_noscript_step-Stage, text_step-Stage}
use Rattle.tl_dom_spec.proofs.SeatedForeign.{dispatch-Stage}

-- the current node is an HTML element

html_top : (b : Builder) (f : Frame) (more : Path) (token : Token) → b.context ≡ None → b.path ≡ f ∷ more → is_html f.tag ≡ true → is_html_content (adjusted_current_node b) token ≡ true
html_top b f more token c e h =
    html_content (adjusted_current_node b) token (ap (λ x. is_html (adjusted_tag x b.path)) c ∙ (ap (λ p. is_html (top p).tag) e ∙ h))

by_mode : (P : Outcome → Type 0) (b : Builder) (m : Mode) (token : Token) → is_html_content (adjusted_current_node b) token ≡ true → b.mode ≡ m → P (mode_step m b token) → P (dispatch token b)
by_mode P b m token i e h =
    cond_both (is_html_content (adjusted_current_node b) token) (html_step b token) (foreign_step b token) P
    (λ _. subst (λ x. P (mode_step x b token)) (sym e) h) (λ n. absurd (true≢false (sym i ∙ n)))

html_tag_of : (names : List ℕ) (t : Tag) → (is_html t && is_one_of names t.name) ≡ true → is_html t ≡ true
html_tag_of names t e = (and_parts (is_html t) (is_one_of names t.name) e).0

rest_html : (place : Place) (path : Path) → Rest place path → is_html (top path).tag ≡ true
rest_html place path (under_head f h d q r i w e) = html_tag_of (codes "head") f.tag q.tag
rest_html place path (behind_head h d r i w e) = html_tag_of (codes "html") h.tag r.tag

rest_dispatch : (P : Outcome → Type 0) (place : Place) (b : Builder) (m : Mode) (token : Token) → b.context ≡ None → Rest place b.path → b.mode ≡ m → P (mode_step m b token) → P (dispatch token b)
rest_dispatch P place b m token c r e h = by_mode P b m token (html_content (adjusted_current_node b) token (ap (λ x. is_html (adjusted_tag x b.path)) c ∙ rest_html place b.path r)) e h

-- each token, from the head on

ground-dispatch : (b : Builder) (token : Token) → IsTied token → Ground b → StageAfter (dispatch token b)
ground-dispatch b token i (deep {low} {md} d) = dispatch-Stage low md b token i d
ground-dispatch b token i (heading e r y) = rest_dispatch StageAfter here b in_head token y.page r e (in_head_step-Stage b token e i r y)
ground-dispatch b token i (in_noscript f rest e m n r y) =
    by_mode StageAfter b in_head_noscript token (html_top b f rest token y.page e n.html) m (in_head_noscript_step-Stage b f rest e m n r y token i)
ground-dispatch b token i (headed e r y) = rest_dispatch StageAfter into_head b after_head token y.page r e (after_head_step-Stage b token e i r y)

stage-dispatch : (b : Builder) (token : Token) → IsTied token → Stage b → StageAfter (dispatch token b)
stage-dispatch b token i (ground g) = ground-dispatch b token i g
stage-dispatch b token i (in_text x p e s m h t c w) = by_mode StageAfter b text_mode token (html_top b x p token c e h) m (text_step-Stage b x p e s m h t c w token)

-- before the head

pub record FreshOf (n next : ℕ) (entries : List Entry) (pointer : Option ℕ) (templates : List Mode) (is_fostering : Bool) (context : Option Tag) : Type 0 where
  pub numbered : next ≡ n
  pub active : entries ≡ []
  pub form : pointer ≡ None
  pub modes : templates ≡ []
  pub fostering : is_fostering ≡ false
  pub page : context ≡ None

abbrev Fresh : ℕ → Builder → Type 0
Fresh n b = FreshOf n b.next b.active b.form b.templates b.is_fostering b.context

pub data PageStage (b : Builder) : Type 0 where
  at_initial : (d : Frame) → b.path ≡ d ∷ [] → IsDocument d → is_html d.tag ≡ true → b.mode ≡ initial → Fresh 1 b → PageStage b
  at_html : (d : Frame) → b.path ≡ d ∷ [] → IsDocument d → is_html d.tag ≡ true → b.mode ≡ before_html → Fresh 1 b → PageStage b
  at_head : (h d : Frame) → b.path ≡ h ∷ d ∷ [] → IsRoot h → AreComments h.children → AreComments h.waiting → IsDocument d → b.mode ≡ before_head → Fresh 2 b → PageStage b
  staged : Stage b → PageStage b

abbrev pub PageAfter : Outcome → Type 0
PageAfter (Done b) = PageStage b
PageAfter (Again b) = PageStage b

staged_after : (o : Outcome) → StageAfter o → PageAfter o
staged_after (Done b) s = staged s
staged_after (Again b) s = staged s

if_page : (v : Bool) (x y : Outcome) → PageAfter x → PageAfter y → PageAfter (if v then x else y)
if_page v x y p q = cond_both v x y PageAfter (λ _. p) (λ _. q)

comments_plain : (nodes : Nodes) → AreComments nodes → ArePlain nodes
comments_plain no_nodes h = tt
comments_plain (and_text nodes bytes) h = absurd h
comments_plain (and_comment nodes bytes) h = comments_plain nodes h
comments_plain (and_doctype nodes own) h = absurd h
comments_plain (and_element nodes tag children) h = absurd h

caught_document : (d : Frame) → IsDocument d → IsDocument (caught_up d)
caught_document d k = record { number = k.number; closed = k.closed; plain = joined-plain d.children d.waiting k.plain (comments_plain d.waiting k.notes); notes = tt }

noted_document : (d : Frame) (nodes : Nodes) → ArePlain nodes → IsDocument d → IsDocument (with_nodes nodes (caught_up d))
noted_document d nodes p k =
    let c = caught_document d k in
    record { number = k.number; closed = k.closed; plain = joined-plain (joined d.children d.waiting) nodes c.plain p; notes = tt }

place_here : (b : Builder) → b.is_fostering ≡ false → place_in b.is_fostering b.path ≡ here
place_here b e = ap (λ v. place_in v b.path) e

module _ (b : Builder) (d : Frame) (e : b.path ≡ d ∷ []) (k : IsDocument d) (h : is_html d.tag ≡ true) (f : Fresh 1 b) where
  initial-Page : (token : Token) → b.mode ≡ initial → PageAfter (initial_step b token)
  initial-Page (a_character c) m = if_page (is_ascii_whitespace c) (Done b) (without_doctype b) (at_initial d e k h m f) (at_html d e k h refl f)
  initial-Page (a_comment bytes) m =
      let nodes : Nodes = and_comment no_nodes bytes in
      subst (λ x. PageStage (with_path b (put x nodes b.path))) (sym (place_here b f.fostering)) (at_initial (with_nodes nodes (caught_up d)) (ap (put here nodes) e) (noted_document d nodes tt k) h m f)
  initial-Page (a_doctype own) m =
      let nodes : Nodes = and_doctype no_nodes own in
      at_html (with_nodes nodes (caught_up d)) (ap (put here nodes) e) (noted_document d nodes tt k) h refl f
  initial-Page (a_start g t closes) m = at_html d e k h refl f
  initial-Page (an_end g name) m = at_html d e k h refl f
  initial-Page end_of_file m = at_html d e k h refl f

  opened-Page : (t : Tag) → IsHtml t → PageStage (html_opened b t)
  opened-Page t i =
      subst (λ x. PageStage (switch_to before_head (insert_element_at x t b))) (sym (place_here b f.fostering))
      (at_head (new_frame b.next t here) (caught_up d) (ap (λ p. new_frame b.next t here ∷ on_top caught_up p) e) (record { number = f.numbered; open_still = refl; tag = i; place = refl }) tt tt (caught_document d k) refl
      (record { numbered = ap suc f.numbered; active = f.active; form = f.form; modes = f.modes; fostering = f.fostering; page = f.page }))

  implied-Page : PageAfter (html_implied b)
  implied-Page =
      subst (λ x. PageStage (add_one (switch_to before_head (insert_element_at x (bare_tag (codes "html")) b)))) (sym (place_here b f.fostering))
      (at_head (new_frame b.next (bare_tag (codes "html")) here) (caught_up d) (ap (λ p. new_frame b.next (bare_tag (codes "html")) here ∷ on_top caught_up p) e)
      (record { number = f.numbered; open_still = refl; tag = refl; place = refl }) tt tt (caught_document d k) refl
      (record { numbered = ap suc f.numbered; active = f.active; form = f.form; modes = f.modes; fostering = f.fostering; page = f.page }))

  html-Page : (token : Token) → IsTied token → b.mode ≡ before_html → PageAfter (before_html_step b token)
  html-Page (a_character c) i m = if_page (is_ascii_whitespace c) (Done b) (html_implied b) (at_html d e k h m f) implied-Page
  html-Page (a_comment bytes) i m =
      let nodes : Nodes = and_comment no_nodes bytes in
      subst (λ x. PageStage (with_path b (put x nodes b.path))) (sym (place_here b f.fostering)) (at_html (with_nodes nodes (caught_up d)) (ap (put here nodes) e) (noted_document d nodes tt k) h m f)
  html-Page (a_doctype own) i m = at_html d e k h m f
  html-Page (a_start the_html t closes) i m = opened-Page t (any_of (codes "html") (codes "html") t refl i.html (name_of the_html t.name i.named))
  html-Page (a_start g t closes) i m = implied-Page
  html-Page (an_end g name) i m = if_page (is_head_end g) (html_implied b) (Done b) implied-Page (at_html d e k h m f)
  html-Page end_of_file i m = implied-Page

module _ (b : Builder) (h d : Frame) (e : b.path ≡ h ∷ d ∷ []) (r : IsRoot h) (i : AreComments h.children) (w : AreComments h.waiting) (k : IsDocument d) (f : Fresh 2 b) where
  early : (next : ℕ) → next ≡ 3 → EarlyOf b.active next b.form b.is_frameset_ok b.templates b.is_fostering true b.context
  early next n = record {
    S = [];
    L = [];
    active = subst (Each (Kept [] [])) (sym f.active) tt;
    form = subst (IfSome (IsForm [] [])) (sym f.form) tt;
    numbers = tt;
    listed = tt;
    above = omega (arith, n);
    templates_fit = subst (Each IsTemplateMode) (sym f.modes) tt;
    fostering = λ y. absurd (true≢false (sym y ∙ f.fostering));
    head = refl;
    page = f.page;
  }

  caught_root : IsRoot (caught_up h)
  caught_root = record { number = r.number; open_still = r.open_still; tag = r.tag; place = r.place }

  head_path : (t : Tag) → IsHead t → Rest here (new_frame b.next t here ∷ on_top caught_up b.path)
  head_path t y =
      subst (λ p. Rest here (new_frame b.next t here ∷ on_top caught_up p)) (sym e)
      (under_head (new_frame b.next t here) (caught_up h) d (record { number = f.numbered; open_still = refl; tag = y; place = refl }) caught_root (joined-comments h.children h.waiting i w) tt k)

  head_opened-Page : (t : Tag) → IsHead t → PageStage (head_opened b t)
  head_opened-Page t y =
      subst (λ x. PageStage (switch_to in_head (record (insert_element_at x t b) { has_head = true }))) (sym (place_here b f.fostering))
      (staged (ground (heading refl (head_path t y) (early (suc b.next) (ap suc f.numbered)))))

  head_implied-Page : PageAfter (head_implied b)
  head_implied-Page =
      let t : Tag = bare_tag (codes "head") in
      subst (λ x. PageStage (add_one (switch_to in_head (record (insert_element_at x t b) { has_head = true })))) (sym (place_here b f.fostering))
      (staged (ground (heading refl (head_path t refl) (early (suc b.next) (ap suc f.numbered)))))

  more-Page : (t : Tag) → b.mode ≡ before_head → PageStage (html_start b t)
  more-Page t m =
      let more = t.attributes in
      cond_both (has_template b) b (add_attributes 1 more b) PageStage (λ _. at_head h d e r i w k m f)
      (λ _. at_head _ _ (ap (at_number 1 (λ (g : Frame). record g { tag = with_more more g.tag })) e) (root-more [] [] 0 true 1 more h r) (same_children [] [] 0 true AreComments 1 more h i) (same_waiting [] [] 0 true AreComments 1 more h w)
      (document-more [] [] 0 true 1 more d k) m f)

  head-Page : (token : Token) → IsTied token → b.mode ≡ before_head → PageAfter (before_head_step b token)
  head-Page (a_character c) y m = if_page (is_ascii_whitespace c) (Done b) (head_implied b) (at_head h d e r i w k m f) head_implied-Page
  head-Page (a_comment bytes) y m =
      let nodes : Nodes = and_comment no_nodes bytes in
      subst (λ x. PageStage (with_path b (put x nodes b.path))) (sym (place_here b f.fostering))
      (at_head (with_nodes nodes (caught_up h)) d (ap (put here nodes) e) (record { number = r.number; open_still = r.open_still; tag = r.tag; place = r.place }) (joined-comments (joined h.children h.waiting) nodes (joined-comments h.children h.waiting i w) tt) tt k m f)
  head-Page (a_doctype own) y m = at_head h d e r i w k m f
  head-Page (a_start the_html t closes) y m = more-Page t m
  head-Page (a_start the_head t closes) y m = head_opened-Page t (any_of (codes "head") (codes "head") t refl y.html (name_of the_head t.name y.named))
  head-Page (a_start g t closes) y m = head_implied-Page
  head-Page (an_end g name) y m = if_page (is_head_end g) (head_implied b) (Done b) head_implied-Page (at_head h d e r i w k m f)
  head-Page end_of_file y m = head_implied-Page

-- each token

pub page-dispatch : (b : Builder) (token : Token) → IsTied token → PageStage b → PageAfter (dispatch token b)
page-dispatch b token i (at_initial d e k h m f) = by_mode PageAfter b initial token (html_top b d [] token f.page e h) m (initial-Page b d e k h f token m)
page-dispatch b token i (at_html d e k h m f) = by_mode PageAfter b before_html token (html_top b d [] token f.page e h) m (html-Page b d e k h f token i m)
page-dispatch b token i (at_head h d e r c w k m f) =
    by_mode PageAfter b before_head token (html_top b h (d ∷ []) token f.page e (html_tag_of (codes "html") h.tag r.tag)) m (head-Page b h d e r c w k f token i m)
page-dispatch b token i (staged s) = staged_after (dispatch token b) (stage-dispatch b token i s)

page-repeated : (n : ℕ) (token : Token) (o : Outcome) → IsTied token → PageAfter o → PageStage (repeated n (dispatch token) o)
page-repeated n token (Done b) i s = s
page-repeated zero token (Again b) i s = s
page-repeated (suc n) token (Again b) i s = page-repeated n token (dispatch token b) i (page-dispatch b token i s)

stage-same : (b : Builder) → Stage b → Stage (calm b)
stage-same b (ground g) = ground g
stage-same b (in_text x p e s m h t c w) = in_text x p e s m h t c w

pub calm-Page : (b : Builder) → PageStage b → PageStage (calm b)
calm-Page b (at_initial d e k h m f) = at_initial d e k h m f
calm-Page b (at_html d e k h m f) = at_html d e k h m f
calm-Page b (at_head h d e r c w k m f) = at_head h d e r c w k m f
calm-Page b (staged s) = staged (stage-same b s)

counted-stage : (b : Builder) (n m : ℕ) → Stage b → Stage (record b { tokens = n; excess = m })
counted-stage b n k (ground g) = ground g
counted-stage b n k (in_text x p e s m h t c w) = in_text x p e s m h t c w

counted-Page : (b : Builder) (n m : ℕ) → PageStage b → PageStage (record b { tokens = n; excess = m })
counted-Page b n z (at_initial d e k h m f) = at_initial d e k h m f
counted-Page b n z (at_html d e k h m f) = at_html d e k h m f
counted-Page b n z (at_head h d e r c w k m f) = at_head h d e r c w k m f
counted-Page b n z (staged s) = staged (counted-stage b n z s)

count-Page : (b : Builder) → PageStage b → PageStage (count_token b)
count-Page b s =
    let taken : Builder = record b { tokens = suc b.tokens } in
    cond_both (nat_lt taken.excess (excess_of taken)) (record taken { excess = excess_of taken }) taken PageStage
    (λ _. counted-Page b (suc b.tokens) (excess_of taken) s) (λ _. counted-Page b (suc b.tokens) b.excess s)

started-stage : (b : Builder) (n : ℕ) → Stage b → Stage (record b { marks = n })
started-stage b n (ground g) = ground g
started-stage b n (in_text x p e s m h t c w) = in_text x p e s m h t c w

started-Page : (b : Builder) (n : ℕ) → PageStage b → PageStage (record b { marks = n })
started-Page b n (at_initial d e k h m f) = at_initial d e k h m f
started-Page b n (at_html d e k h m f) = at_html d e k h m f
started-Page b n (at_head h d e r c w k m f) = at_head h d e r c w k m f
started-Page b n (staged s) = staged (started-stage b n s)

numbered-tied : (n : ℕ) (token : Token) → IsTied token → IsTied (numbered n token)
numbered-tied n (a_character c) i = tt
numbered-tied n (a_start g t closes) i = record { named = i.named; html = i.html }
numbered-tied n (an_end g name) i = i
numbered-tied n (a_comment bytes) i = tt
numbered-tied n (a_doctype own) i = tt
numbered-tied n end_of_file i = tt

token-Page : (b : Builder) (token : Token) → IsTied token → PageStage b → PageStage (token_done b token)
token-Page b token i s =
    let own : Token = numbered b.marks token in
    let taken : Builder = if b.skips && is_line_feed token then calm b else repeated (bound b) (dispatch own) (Again (calm b)) in
    started-Page (count_token taken) (marks_behind b.marks token)
    (count-Page taken
    (cond_both (b.skips && is_line_feed token) (calm b) (repeated (bound b) (dispatch own) (Again (calm b))) PageStage
    (λ _. calm-Page b s) (λ _. page-repeated (bound b) own (Again (calm b)) (numbered-tied b.marks token i) (calm-Page b s))))

pub tokens-Page : (b : Builder) (tokens : List Token) → Each IsTied tokens → PageStage b → PageStage (tokens_done b tokens)
tokens-Page b [] i s = s
tokens-Page b (token ∷ tokens) i s = tokens-Page (token_done b token) tokens i.1 (token-Page b token i.0 s)

pub start-Page : (flags : Flags) → PageStage (page_start flags)
start-Page flags =
    at_initial document refl (record { number = refl; closed = refl; plain = tt; notes = tt }) refl refl
    (record { numbered = refl; active = refl; form = refl; modes = refl; fostering = refl; page = refl })
