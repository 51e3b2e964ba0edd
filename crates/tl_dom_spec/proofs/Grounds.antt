-- Where a page is read: before its head, in it, behind it, and further in. The mode is reset there, and templates and framesets open and close.
use Rattle.std.proofs.Common.{Bool, List, None, Option, [], ap, arith, codes, false, if◌then◌else◌, inl, inr, not, refl, subst, sym, true, true≢false, ℕ, ◌<◌, ◌||◌, ◌∙◌, ◌∷◌, ◌≡◌, ◌≤◌, ◌⊎◌}
use Rattle.std.proofs.lemmas.Bool.{and_from, and_parts, and_right, cases_Bool, cases_order, or_from}
use Rattle.tl_html_spec.specs.Balanced.{is_one_of, words}
use Rattle.tl_dom_spec.specs.Tags.{Tag, is_any, is_foster_target, is_html, is_template}
use Rattle.tl_dom_spec.specs.Groups.{Group, a_caption, a_cell, a_column_group, a_frameset, a_row, a_table, a_table_body, a_template, group, the_body, the_head, the_html}
use Rattle.tl_dom_spec.specs.Path.{Frame, Nodes, Path, Place, at_head, caught_up, elements, has_tag, here, into_head, no_frame, node_of, popped, popped_through, settled, settled_at, settled_while, top_settled, with_nodes, within}
use Rattle.tl_dom_spec.specs.Builder.{Builder, Entry, Mode, after_after_body, after_after_frameset, after_body, after_frameset, after_head, before_head, before_html, has_template, in_body, in_caption, in_cell, in_column_group, in_frameset, in_head, in_head_noscript, in_row, in_table, in_table_body, in_table_text, in_template, initial, text_mode, without_last_marker}
use Rattle.tl_dom_spec.specs.Reset.{close_template, current_template_mode, last_tag, mode_at, mode_of, or_mode, tag_mode, templates_popped}
use Rattle.tl_dom_spec.proofs.Allowed.{Each}
use Rattle.tl_dom_spec.proofs.Words.{any_word}
use Rattle.tl_dom_spec.proofs.SeatedPaths.{IsBar, IsCell, IsDocument, IsRoot, Loose, Rest, Seated, Sought, at_head-alone, bar_names, bare, behind_head, bodied, cell, found, high, inside, off-Seated, one_of_these, past, popped_through-Seated, rooted, settled-Seated, settled_while-Seated, stays, under_head}
use Rattle.tl_dom_spec.proofs.SeatedBuilders.{DeepOf, Fits, Held, IfSome, IsForm, IsTemplateMode, Kept, without_marker-kept}
use Rattle.tl_dom_spec.proofs.GroupNames.{any_of, name_of}

-- what holds beside the path before the body
pub record EarlyOf (entries : List Entry) (next : ℕ) (pointer : Option ℕ) (ok : Bool) (templates : List Mode) (is_fostering has_head : Bool) (context : Option Tag) : Type 0 where
  pub S : List ℕ
  pub L : List ℕ
  pub active : Each (Kept S L) entries
  pub form : IfSome (IsForm S L) pointer
  pub numbers : Each (λ k. (2 < k) × (k < next)) S
  pub listed : Each (λ k. k < next) L
  pub above : 2 < next
  pub templates_fit : Each IsTemplateMode templates
  pub fostering : is_fostering ≡ true → ok ≡ false
  pub head : has_head ≡ true
  pub page : context ≡ None

abbrev pub Early : Builder → Type 0
Early b = EarlyOf b.active b.next b.form b.is_frameset_ok b.templates b.is_fostering b.has_head b.context

pub record IsNoscript (f : Frame) : Type 0 where
  pub place : f.place ≡ here
  pub open_still : f.is_open ≡ true
  pub html : is_html f.tag ≡ true
  pub target : is_foster_target f.tag ≡ false

pub data GroundOf (path : Path) (entries : List Entry) (next : ℕ) (pointer : Option ℕ) (ok : Bool) (mode own : Mode) (templates : List Mode) (is_fostering has_head : Bool) (context : Option Tag) : Type 0 where
  deep : {low : ℕ} {md : Mode} → DeepOf low md path entries next pointer ok mode own templates is_fostering has_head context → GroundOf path entries next pointer ok mode own templates is_fostering has_head context
  heading : mode ≡ in_head → Rest here path → EarlyOf entries next pointer ok templates is_fostering has_head context → GroundOf path entries next pointer ok mode own templates is_fostering has_head context
  in_noscript : (f : Frame) (rest : Path) → path ≡ f ∷ rest → mode ≡ in_head_noscript → IsNoscript f → Rest here rest → EarlyOf entries next pointer ok templates is_fostering has_head context →
      GroundOf path entries next pointer ok mode own templates is_fostering has_head context
  headed : mode ≡ after_head → Rest into_head path → EarlyOf entries next pointer ok templates is_fostering has_head context → GroundOf path entries next pointer ok mode own templates is_fostering has_head context

abbrev pub Ground : Builder → Type 0
Ground b = GroundOf b.path b.active b.next b.form b.is_frameset_ok b.mode b.original b.templates b.is_fostering b.has_head b.context

-- the mode is reset

pub low_most : {S L : List ℕ} {N : ℕ} {ok : Bool} {low m : ℕ} {tg : Tag} {path : Path} → Seated S L N ok low m tg path → low ≤ 3
low_most (high t rest b i r) = omega arith
low_most (bodied g h d b p i r a w e) = omega arith
low_most (rooted h d r e n b) = omega arith
low_most (cell f p b l i s) = low_most s
low_most (inside f p l s) = low_most s

current_fits : (low : ℕ) (tg : Tag) (own : Mode) (modes : List Mode) → Each IsTemplateMode modes → Fits low tg (current_template_mode modes) own
current_fits low tg own [] h = tt
current_fits low tg own (in_body ∷ modes) h = tt
current_fits low tg own (in_table ∷ modes) h = tt
current_fits low tg own (in_column_group ∷ modes) h = tt
current_fits low tg own (in_table_body ∷ modes) h = tt
current_fits low tg own (in_row ∷ modes) h = tt
current_fits low tg own (in_template ∷ modes) h = tt
current_fits low tg own (initial ∷ modes) h = absurd h.0
current_fits low tg own (before_html ∷ modes) h = absurd h.0
current_fits low tg own (before_head ∷ modes) h = absurd h.0
current_fits low tg own (in_head ∷ modes) h = absurd h.0
current_fits low tg own (in_head_noscript ∷ modes) h = absurd h.0
current_fits low tg own (after_head ∷ modes) h = absurd h.0
current_fits low tg own (text_mode ∷ modes) h = absurd h.0
current_fits low tg own (in_table_text ∷ modes) h = absurd h.0
current_fits low tg own (in_caption ∷ modes) h = absurd h.0
current_fits low tg own (in_cell ∷ modes) h = absurd h.0
current_fits low tg own (after_body ∷ modes) h = absurd h.0
current_fits low tg own (in_frameset ∷ modes) h = absurd h.0
current_fits low tg own (after_frameset ∷ modes) h = absurd h.0
current_fits low tg own (after_after_body ∷ modes) h = absurd h.0
current_fits low tg own (after_after_frameset ∷ modes) h = absurd h.0

pub opened : (f : Frame) (path : Path) → f.is_open ≡ true → elements (f ∷ path) ≡ f ∷ elements path
opened f path e = ap (λ (x : Bool). if x then f ∷ elements path else elements path) e

pub closed_off : (f : Frame) (path : Path) → f.is_open ≡ false → elements (f ∷ path) ≡ elements path
closed_off f path e = ap (λ (x : Bool). if x then f ∷ elements path else elements path) e

-- some element is open
abbrev Some_open : Path → Type 0
Some_open path = (g : Frame) × (more : List Frame) × (elements path ≡ g ∷ more)

root_open : (h : Frame) (path : Path) → IsRoot h → Some_open (h ∷ path)
root_open h path r = (h, elements path, opened h path r.open_still)

rest_open : (place : Place) (rest : Path) → Rest place rest → Some_open rest
rest_open place rest (under_head f h d q r i w e) = (f, elements (h ∷ d ∷ []), opened f (h ∷ d ∷ []) q.open_still)
rest_open place rest (behind_head h d r i w e) = root_open h (d ∷ []) r

pub seated_open : {S L : List ℕ} {N : ℕ} {ok : Bool} {low m : ℕ} {tg : Tag} {path : Path} → Seated S L N ok low m tg path → Some_open path
seated_open (high t rest b i r) = (t, elements rest, opened t rest b.open_still)
seated_open (bodied g h d b p i r a w e) = (g, elements (h ∷ d ∷ []), opened g (h ∷ d ∷ []) b.open_still)
seated_open (rooted h d r e n b) = root_open h (d ∷ []) r
seated_open (cell f p b l i s) = (f, elements p, opened f p b.open_still)
seated_open (inside f p l s) =
    elim (cases_Bool f.is_open) [
      | inl o ↦ (f, elements p, opened f p o)
      | inr n ↦ (let t = seated_open s in (t.0, t.1, closed_off f p n ∙ t.2))
    ]

mode_first : (b : Builder) (f : Frame) (path : Path) → f.is_open ≡ true → Some_open path → mode_of b (elements (f ∷ path)) ≡ or_mode (tag_mode b false f.tag) (mode_of b (elements path))
mode_first b f path o t =
    ap (mode_of b) (opened f path o) ∙ (ap (λ x. mode_of b (f ∷ x)) t.2 ∙ sym (ap (λ x. or_mode (tag_mode b false f.tag) (mode_of b x)) t.2))

tag_decides : (b : Builder) (last : Bool) (t : Tag) (g : Group) → is_html t ≡ true → group t.name ≡ g → tag_mode b last t ≡ mode_at b last g
tag_decides b last t g h e = ap (λ (x : Bool). if x then mode_at b last (group t.name) else None) h ∙ ap (mode_at b last) e

pub below_three : (low : ℕ) → (3 ≤ low → ⊥) → low ≤ 2
below_three low n = elim (cases_order low 3) [ inl e ↦ absurd (n (omega (arith, e))) | inr o ↦ elim o [ inl l ↦ omega (arith, l) | inr l ↦ absurd (n (omega (arith, l))) ] ]

module _ (b : Builder) (S L : List ℕ) (N : ℕ) (ok : Bool) (own : Mode) where
  abbrev pub ResetTo : ℕ → Path → Mode → Type 0
  ResetTo low path mode = (m : ℕ) × (tg : Tag) × Seated S L N ok low m tg path × Fits low tg mode own

  -- an open frame, by its group
  reset-at : {low m : ℕ} {tg : Tag} (f : Frame) (path : Path) (g : Group) → group f.tag.name ≡ g → is_html f.tag ≡ true → f.is_open ≡ true → Each IsTemplateMode b.templates →
      Loose S L N ok low f → Seated S L N ok low m tg path → ResetTo low path (mode_of b (elements path)) → ResetTo low (f ∷ path) (or_mode (mode_at b false g) (mode_of b (elements path)))
  reset-at {low} f path a_cell e h o t l s r =
      let i : IsCell f.tag = and_from (is_html f.tag) (is_one_of (codes "td th") f.tag.name) h (name_of a_cell f.tag.name e) in
      let bar : IsBar S L N ok f.number f.tag f = record {
        number = refl;
        above = l.above;
        below = l.below;
        open_still = o;
        tag = refl;
        bars = λ x. true≢false (sym (one_of_these S L N ok (codes "td th") bar_names f.tag (refl, (refl, tt)) i) ∙ (l.bars x).0);
      } in
      (f.number, f.tag, cell f path bar l i s, i)
  reset-at {low} {m} {tg} f path a_row e h o t l s r = (m, tg, inside f path l s, tt)
  reset-at {low} {m} {tg} f path a_table_body e h o t l s r = (m, tg, inside f path l s, tt)
  reset-at {low} {m} {tg} f path a_caption e h o t l s r = (m, tg, inside f path l s, tt)
  reset-at {low} {m} {tg} f path a_column_group e h o t l s r = (m, tg, inside f path l s, tt)
  reset-at {low} {m} {tg} f path a_table e h o t l s r = (m, tg, inside f path l s, tt)
  reset-at {low} {m} {tg} f path a_template e h o t l s r = (m, tg, inside f path l s, current_fits low tg own b.templates t)
  reset-at {low} f path the_head e h o t l s r =
      absurd (true≢false (sym (any_of (codes "html head") (codes "head") f.tag refl h (name_of the_head f.tag.name e)) ∙ l.tag.no_root))
  reset-at {low} {m} {tg} f path the_body e h o t l s r = (m, tg, inside f path l s, tt)
  reset-at {low} f path the_html e h o t l s r =
      absurd (true≢false (sym (any_of (codes "html head") (codes "html") f.tag refl h (name_of the_html f.tag.name e)) ∙ l.tag.no_root))
  reset-at {low} {m} {tg} f path a_frameset e h o t l s r =
      let no_three : 3 ≤ low → ⊥ = λ three.
      true≢false (sym (any_of (codes "body frameset") (codes "frameset") f.tag refl h (name_of a_frameset f.tag.name e)) ∙ l.tag.no_body three) in
      (m, tg, inside f path l s, below_three low no_three)
  reset-at {low} f path g e h o t l s r = (r.0, r.1, inside f path l r.2, r.3)

  pub reset : {low m : ℕ} {tg : Tag} {path : Path} → b.has_head ≡ true → b.context ≡ None → Each IsTemplateMode b.templates → Seated S L N ok low m tg path → ResetTo low path (mode_of b (elements path))
  reset {m} {tg} y n t (high f rest k i r) =
      let z = and_parts (is_html tg) (is_one_of (codes "template") tg.name) i in
      let g : group tg.name ≡ a_template = any_word (λ name. group name ≡ a_template) (words (codes "template")) tg.name (refl, tt) z.1 in (
        m,
        tg,
        high f rest k i r,
        subst (λ x. Fits 3 tg x own)
            (sym (mode_first b f rest k.open_still (rest_open f.place rest r)
            ∙ ap (λ x. or_mode x (mode_of b (elements rest))) (ap (tag_mode b false) k.tag ∙ tag_decides b false tg a_template z.0 g)))
            (current_fits 3 tg own b.templates t),
      )
  reset {m} {tg} y n t (bodied f h d k p i r a w e) =
      let z = and_parts (is_html tg) (is_one_of (codes "body frameset") tg.name) i in
      let turned : (g : Group) → group tg.name ≡ g → mode_of b (elements (f ∷ h ∷ d ∷ [])) ≡ or_mode (mode_at b false g) (mode_of b (elements (h ∷ d ∷ []))) = λ g x.
      mode_first b f (h ∷ d ∷ []) k.open_still (root_open h (d ∷ []) r) ∙ ap (λ x. or_mode x (mode_of b (elements (h ∷ d ∷ [])))) (ap (tag_mode b false) k.tag ∙ tag_decides b false tg g z.0 x) in (
        m,
        tg,
        bodied f h d k p i r a w e,
        elim (any_word (λ name. (group name ≡ the_body) ⊎ (group name ≡ a_frameset)) (words (codes "body frameset")) tg.name (inl refl, (inr refl, tt)) z.1) [
          | inl x ↦ subst (λ x. Fits 2 tg x own) (sym (turned the_body x)) tt
          | inr x ↦ subst (λ x. Fits 2 tg x own) (sym (turned a_frameset x)) (omega arith)
        ],
      )
  reset {tg} y n t (rooted h d r e x k) =
      let z = and_parts (is_html h.tag) (is_one_of (codes "html") h.tag.name) r.tag in (
        1,
        tg,
        rooted h d r e x k,
        subst (λ v. Fits 1 tg v own)
            (sym (ap (mode_of b) (opened h (d ∷ []) r.open_still ∙ ap (λ v. h ∷ v) (closed_off d [] k.closed))
            ∙ (ap (λ c. or_mode (tag_mode b true (last_tag c h.tag)) in_body) n
            ∙ (ap (λ v. or_mode v in_body) (tag_decides b true h.tag the_html z.0 (any_word (λ name. group name ≡ the_html) (words (codes "html")) h.tag.name (refl, tt) z.1))
            ∙ ap (λ (v : Bool). if v then after_head else before_head) y))))
            refl,
      )
  reset {low} {m} {tg} y n t (cell f p k l i s) =
      let z = and_parts (is_html tg) (is_one_of (codes "td th") tg.name) i in
      let g : group tg.name ≡ a_cell = any_word (λ name. group name ≡ a_cell) (words (codes "td th")) tg.name (refl, (refl, tt)) z.1 in (
        m,
        tg,
        cell f p k l i s,
        subst (λ x. Fits low tg x own)
            (sym (mode_first b f p k.open_still (seated_open s) ∙ ap (λ x. or_mode x (mode_of b (elements p))) (ap (tag_mode b false) k.tag ∙ tag_decides b false tg a_cell z.0 g)))
            i,
      )
  reset {low} y n t (inside f p l s) =
      let r = reset y n t s in
      elim (cases_Bool f.is_open) [
        | inr n ↦ subst (ResetTo low (f ∷ p)) (sym (ap (mode_of b) (closed_off f p n))) (r.0, r.1, inside f p l r.2, r.3)
        | inl o ↦ subst (ResetTo low (f ∷ p)) (sym (mode_first b f p o (seated_open s)))
            (elim (cases_Bool (is_html f.tag)) [
              | inr n ↦ subst (λ x. ResetTo low (f ∷ p) (or_mode x (mode_of b (elements p)))) (sym (ap (λ (x : Bool). if x then mode_at b false (group f.tag.name) else None) n)) (r.0, r.1, inside f p l r.2, r.3)
              | inl h ↦ subst (λ x. ResetTo low (f ∷ p) (or_mode x (mode_of b (elements p)))) (sym (tag_decides b false f.tag (group f.tag.name) h refl))
                  (reset-at f p (group f.tag.name) refl h o t l s r)
            ])
      ]

-- what is in `head` or goes to its end

pub rest-stays : (h : Frame) (path count : Path) → h.is_open ≡ true → settled_while no_frame count (h ∷ path) ≡ h ∷ path
rest-stays h path count o = stays [] [] 0 true no_frame count h path (or_from (not h.is_open) false (ap not o) refl)

pub rest-settled : (place : Place) (rest : Path) (nodes : Nodes) → Rest place rest → Rest place (settled (settled_at place nodes rest))
rest-settled place rest nodes (under_head f h d q r i w e) =
    let c : Frame = caught_up (with_nodes nodes f) in
    subst (Rest here) (sym (rest-stays c (h ∷ d ∷ []) (c ∷ h ∷ d ∷ []) q.open_still))
    (under_head c h d (record { number = q.number; open_still = q.open_still; tag = q.tag; place = q.place }) r i w e)
rest-settled place rest nodes (behind_head h d r i w e) =
    let c : Frame = record h { children = at_head h.children nodes } in
    subst (Rest into_head) (sym (rest-stays c (d ∷ []) (c ∷ d ∷ []) r.open_still))
    (behind_head c d (record { number = r.number; open_still = r.open_still; tag = r.tag; place = r.place }) (at_head-alone h.children nodes i) w e)

-- by its place, what is left when a template before the body is closed
rest-mode : (b : Builder) (place : Place) (rest : Path) → b.has_head ≡ true → b.context ≡ None → Rest place rest → Early b → b.path ≡ rest → b.mode ≡ mode_of b (elements rest) → Ground b
rest-mode b place rest k n (under_head f h d q r i w e) y p m =
    let t = and_parts (is_html f.tag) (is_one_of (codes "head") f.tag.name) q.tag in
    heading (m ∙ (mode_first b f (h ∷ d ∷ []) q.open_still (root_open h (d ∷ []) r)
    ∙ ap (λ x. or_mode x (mode_of b (elements (h ∷ d ∷ [])))) (tag_decides b false f.tag the_head t.0 (any_word (λ name. group name ≡ the_head) (words (codes "head")) f.tag.name (refl, tt) t.1))))
    (subst (Rest here) (sym p) (under_head f h d q r i w e)) y
rest-mode b place rest k n (behind_head h d r i w e) y p m =
    let t = and_parts (is_html h.tag) (is_one_of (codes "html") h.tag.name) r.tag in
    headed (m ∙ (ap (mode_of b) (opened h (d ∷ []) r.open_still ∙ ap (λ x. h ∷ x) (closed_off d [] e.closed))
    ∙ (ap (λ c. or_mode (tag_mode b true (last_tag c h.tag)) in_body) n
    ∙ (ap (λ x. or_mode x in_body) (tag_decides b true h.tag the_html t.0 (any_word (λ name. group name ≡ the_html) (words (codes "html")) h.tag.name (refl, tt) t.1))
    ∙ ap (λ (x : Bool). if x then after_head else before_head) k))))
    (subst (Rest into_head) (sym p) (behind_head h d r i w e)) y

-- a template is closed

-- the one before the body stays in the place of a cell in it
high_bare : {S L : List ℕ} {N : ℕ} {ok : Bool} {low m : ℕ} {tg : Tag} {path : Path} → low ≡ 3 → Seated S L N ok low m tg path → (n : ℕ) × (own : Tag) × (is_template own ≡ true) × Seated S L N ok low n own path
high_bare {m} {tg} e (high t rest b i r) = (m, tg, i, high t rest b i r)
high_bare e (bodied g h d b p i r a w k) = absurd (omega (arith, e))
high_bare e (rooted h d r k n b) = absurd (omega (arith, e))
high_bare e (cell f p b l i s) = let t = high_bare e s in (t.0, t.1, t.2, inside f p l t.3)
high_bare e (inside f p l s) = let t = high_bare e s in (t.0, t.1, t.2, inside f p l t.3)

abbrev SeatedOr : List ℕ → List ℕ → ℕ → Bool → ℕ → Path → Type 0
SeatedOr S L N ok low path = ((m : ℕ) × (tg : Tag) × Seated S L N ok low m tg path) ⊎ ((place : Place) × Rest place path)

pub rest_tail : (t : Frame) (place : Place) (rest : Path) → Rest place rest → top_settled (t ∷ rest) ≡ settled_at t.place (node_of t) rest
rest_tail t place rest (under_head f h d q r k w n) = refl
rest_tail t place rest (behind_head h d r k w n) = refl

rest_top : (t : Frame) (rest : Path) → Rest t.place rest → top_settled (t ∷ rest) ≡ settled_at t.place (node_of t) rest
rest_top t rest r = rest_tail t t.place rest r

high_popped : {S L : List ℕ} {N : ℕ} {ok : Bool} {low m : ℕ} {tg : Tag} (path : Path) → low ≡ 3 → Seated S L N ok low m tg path → SeatedOr S L N ok low (popped path)
high_popped path e (high t rest b i r) = inr (t.place, subst (λ x. Rest t.place (settled x)) (sym (rest_top t rest r)) (rest-settled t.place rest (node_of t) r))
high_popped path e (bodied g h d b p i r a w k) = absurd (omega (arith, e))
high_popped path e (rooted h d r k n b) = absurd (omega (arith, e))
high_popped {S} {L} {N} {ok} path e (cell f p b l i s) = inl (_, _, settled-Seated S L N ok (top_settled (f ∷ p)) (off-Seated S L N ok f l.place s))
high_popped {S} {L} {N} {ok} {m} {tg} path e (inside f p l s) = inl (m, tg, settled-Seated S L N ok (top_settled (f ∷ p)) (off-Seated S L N ok f l.place s))

high_closed : {S L : List ℕ} {N : ℕ} {ok : Bool} {low m : ℕ} {tg : Tag} (path : Path) → low ≡ 3 → Seated S L N ok low m tg path → SeatedOr S L N ok low (popped_through (has_tag is_template) path)
high_closed {S} {L} {N} {ok} path e s =
    let t = high_bare e s in
    high_popped (settled_while (λ (f : Frame). not (has_tag is_template f)) path path) e
    (settled_while-Seated S L N ok (λ _ t. not (is_template t)) path path (ap not t.2) t.3)

-- a template further in, where the body is open
abbrev IsTemplateAt : ℕ → Tag → Bool
IsTemplateAt n t = is_template t

pub not_these : (names : List ℕ) (t : Tag) → Each (λ name. is_one_of (codes "template") name ≡ false) (words names) → is_any names t ≡ true → is_template t ≡ false
not_these names t k e =
    and_right (is_html t) (is_one_of (codes "template") t.name)
    (any_word (λ name. is_one_of (codes "template") name ≡ false) (words names) t.name k (and_parts (is_html t) (is_one_of names t.name) e).1)

abbrev TemplateIn : List ℕ → List ℕ → ℕ → Bool → ℕ → Path → Type 0
TemplateIn S L N ok low path = (m : ℕ) × (tg : Tag) × Sought S L N ok IsTemplateAt low m tg path

pub no_open : (f : Frame) (path : Path) → f.is_open ≡ true → is_template f.tag ≡ false → within (has_tag is_template) no_frame (elements (f ∷ path)) ≡ within (has_tag is_template) no_frame (elements path)
no_open f path o e = ap (within (has_tag is_template) no_frame) (opened f path o) ∙ ap (λ x. x || within (has_tag is_template) no_frame (elements path)) e

pub root_none : (h d : Frame) → IsRoot h → IsDocument d → within (has_tag is_template) no_frame (elements (h ∷ d ∷ [])) ≡ false
root_none h d r e =
    no_open h (d ∷ []) r.open_still (not_these (codes "html") h.tag (refl, tt) r.tag) ∙ ap (within (has_tag is_template) no_frame) (closed_off d [] e.closed)

template_in : {S L : List ℕ} {N : ℕ} {ok : Bool} {low m : ℕ} {tg : Tag} {path : Path} → (low ≡ 3 → ⊥) → within (has_tag is_template) no_frame (elements path) ≡ true → Seated S L N ok low m tg path → TemplateIn S L N ok low path
template_in n e (high t rest b i r) = absurd (n refl)
template_in n e (bodied g h d b p i r a w k) =
    absurd (true≢false (sym e ∙ (no_open g (h ∷ d ∷ []) b.open_still (not_these (codes "body frameset") g.tag (refl, (refl, tt)) (ap (λ x. is_any (codes "body frameset") x) b.tag ∙ i)) ∙ root_none h d r k)))
template_in n e (rooted h d r k x b) = absurd (true≢false (sym e ∙ root_none h d r b))
template_in n e (cell f p b l i s) =
    let t = template_in n (sym (no_open f p b.open_still (not_these (codes "td th") f.tag (refl, (refl, tt)) (ap (λ x. is_any (codes "td th") x) b.tag ∙ i))) ∙ e) s in
    (t.0, t.1, past f p l t.2)
template_in {S} {L} {N} {ok} n e (inside f p l s) =
    elim (cases_Bool f.is_open) [
      | inr x ↦ (let t = template_in n (sym (ap (within (has_tag is_template) no_frame) (closed_off f p x)) ∙ e) s in (t.0, t.1, past f p l t.2))
      | inl o ↦ elim (cases_Bool (is_template f.tag)) [
        | inl y ↦ (let t = bare S L N ok s in (t.0, t.1, found f p l o y t.3))
        | inr x ↦ (let t = template_in n (sym (no_open f p o x) ∙ e) s in (t.0, t.1, past f p l t.2))
      ]
    ]

template_not_ok : {S L : List ℕ} {N : ℕ} {ok : Bool} {low m : ℕ} {tg : Tag} {path : Path} → Sought S L N ok IsTemplateAt low m tg path → ok ≡ true → ⊥
template_not_ok (found f p l o e s) y = true≢false (sym e ∙ l.tag.no_template y)
template_not_ok (past f p l s) y = template_not_ok s y

pub popped_fit : (modes : List Mode) → Each IsTemplateMode modes → Each IsTemplateMode (templates_popped modes)
popped_fit [] h = tt
popped_fit (m ∷ modes) h = h.1

-- what a template's end needs
pub record LaxOf (low : ℕ) (path : Path) (entries : List Entry) (next : ℕ) (pointer : Option ℕ) (ok : Bool) (templates : List Mode) (is_fostering has_head : Bool) (context : Option Tag) : Type 0 where
  pub S : List ℕ
  pub L : List ℕ
  pub m : ℕ
  pub tg : Tag
  pub held : Held S L low m tg path entries next pointer ok
  pub templates_fit : Each IsTemplateMode templates
  pub fostering : is_fostering ≡ true → ok ≡ false
  pub head : has_head ≡ true
  pub page : context ≡ None
  pub early : 3 ≤ low → ok ≡ false

abbrev pub Lax : ℕ → Builder → Type 0
Lax low b = LaxOf low b.path b.active b.next b.form b.is_frameset_ok b.templates b.is_fostering b.has_head b.context

module _ (low : ℕ) where
  -- a template may be closed
  abbrev pub Closes : (b : Builder) → Lax low b → Type 0
  Closes b d = (low ≡ 3) ⊎ TemplateIn d.S d.L b.next b.is_frameset_ok low b.path

  pub closes_of : (b : Builder) (d : Lax low b) → has_template b ≡ true → Closes b d
  closes_of b d e =
      elim (cases_order low 3) [
        | inl y ↦ inl y
        | inr o ↦ inr (template_in (λ y. elim o [ inl l ↦ omega (arith, l, y) | inr l ↦ omega (arith, l, y) ]) e d.held.seats)
      ]

  reset-Deep : (b : Builder) (c : Builder) (d : Lax low b) → (b.is_frameset_ok ≡ true → ⊥) → ((m : ℕ) × (tg : Tag) × Seated d.S d.L b.next b.is_frameset_ok low m tg c.path) →
      DeepOf low (mode_of (record c { templates = templates_popped b.templates; context = b.context; has_head = b.has_head }) (elements c.path)) c.path (without_last_marker b.active) b.next b.form b.is_frameset_ok (mode_of (record c { templates = templates_popped b.templates; context = b.context; has_head = b.has_head }) (elements c.path)) b.original (templates_popped b.templates) b.is_fostering b.has_head b.context
  reset-Deep b c d n s =
      let own : Builder = record c { templates = templates_popped b.templates; context = b.context; has_head = b.has_head } in
      let t = popped_fit b.templates d.templates_fit in
      let r = reset own d.S d.L b.next b.is_frameset_ok b.original d.head d.page t s.2 in
      record {
        S = d.S;
        L = d.L;
        m = r.0;
        mode_is = refl;
        tg = r.1;
        held = record { seats = r.2; active = without_marker-kept (Kept d.S d.L) b.active d.held.active; form = d.held.form; numbers = d.held.numbers; listed = d.held.listed; above = d.held.above };
        quiet = record {
          fits = r.3;
          templates_fit = t;
          fostering = d.fostering;
          calm = λ y. absurd (n y);
          head = d.head;
          page = d.page;
          early = d.early;
        };
      }

  pub close-Ground : (b : Builder) → (d : Lax low b) → Closes b d → Ground (close_template b)
  close-Ground b d (inr t) =
      let path : Path = popped_through (has_tag is_template) b.path in
      let s = popped_through-Seated d.S d.L b.next b.is_frameset_ok IsTemplateAt b.path t.2 in
      deep (reset-Deep b (record b { path = path; active = without_last_marker b.active }) d (template_not_ok t.2) (t.0, t.1, s))
  close-Ground b d (inl e) =
      let path : Path = popped_through (has_tag is_template) b.path in
      elim (high_closed b.path e d.held.seats) [
        | inl s ↦ deep (reset-Deep b (record b { path = path; active = without_last_marker b.active }) d (λ y. true≢false (sym y ∙ d.early (omega (arith, e)))) s)
        | inr r ↦ rest-mode (close_template b) r.0 path d.head d.page r.1
            (record {
              S = d.S;
              L = d.L;
              active = without_marker-kept (Kept d.S d.L) b.active d.held.active;
              form = d.held.form;
              numbers = d.held.numbers;
              listed = d.held.listed;
              above = d.held.above;
              templates_fit = popped_fit b.templates d.templates_fit;
              fostering = d.fostering;
              head = d.head;
              page = d.page;
            }) refl refl
      ]
