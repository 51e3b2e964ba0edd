-- Where `html`, `head` and `body` stand on the path of a page, once something stands open in `head`, behind it or in `body`: what is
-- never popped there (`html`, a template of the head, `body`, and in the mode of cells a cell), and what is put into these.
use Rattle.std.proofs.Common.{Bool, List, [], ap, arith, codes, false, if◌then◌else◌, inl, inr, not, refl, subst, sym, true, true≢false, ℕ, ◌&&◌, ◌<◌, ◌==◌, ◌||◌, ◌∙◌, ◌∷◌, ◌≡◌, ◌≤◌, ◌⊎◌}
use Rattle.std.specs.Prelude.{⊤}
use Rattle.std.specs.Char.{is_ascii_whitespace}
use Rattle.std.proofs.lemmas.Bool.{and_from, and_parts, and_right, cases_Bool, cond_both, false_from_ne_true, or_from}
use Rattle.std.proofs.lemmas.Bool.Decides.{nat_tests}
use Rattle.tl_html_spec.specs.Balanced.{is_one_of, words}
use Rattle.tl_dom_spec.specs.Tags.{Attribute, Tag, by_space, is_any, is_foster_target, is_html, is_table, is_template}
use Rattle.tl_dom_spec.specs.Marks.{Marked}
use Rattle.tl_dom_spec.specs.Path.{Frame, Nodes, Path, Place, and_comment, and_doctype, and_element, and_text, at_head, at_number, behind, caught_up, elements, foster_place, has_tag, here, into, into_head, joined, new_frame, no_nodes, node_of, on_top, place_in, place_of, popped, popped_through, popped_to, put, settled, settled_at, settled_while, top, top_settled, with_nodes, with_text, with_waiting, within}
use Rattle.tl_dom_spec.specs.Builder.{pushed_at, with_more}
use Rattle.tl_dom_spec.specs.Lawful.{IsIn}
use Rattle.tl_dom_spec.proofs.Allowed.{Each, each_append}
use Rattle.tl_dom_spec.proofs.Words.{any_word}

-- nodes

abbrev pub IsHead : Tag → Type 0
IsHead t = is_any (codes "head") t ≡ true

abbrev pub IsHtml : Tag → Type 0
IsHtml t = is_any (codes "html") t ≡ true

abbrev pub IsBody : Tag → Type 0
IsBody t = is_any (codes "body frameset") t ≡ true

abbrev pub IsBlank : List ℕ → Type 0
IsBlank bytes = Each (λ c. is_ascii_whitespace c ≡ true) bytes

-- comments and doctypes, comments, and comments and white space
abbrev pub ArePlain : Nodes → Type 0
ArePlain no_nodes = ⊤
ArePlain (and_text nodes bytes) = ⊥
ArePlain (and_comment nodes bytes) = ArePlain nodes
ArePlain (and_doctype nodes own) = ArePlain nodes
ArePlain (and_element nodes tag children) = ⊥

abbrev pub AreComments : Nodes → Type 0
AreComments no_nodes = ⊤
AreComments (and_text nodes bytes) = ⊥
AreComments (and_comment nodes bytes) = AreComments nodes
AreComments (and_doctype nodes own) = ⊥
AreComments (and_element nodes tag children) = ⊥

-- `head`, with comments before it, and with comments and white space alone behind it
abbrev pub HeadAlone : Nodes → Type 0
HeadAlone no_nodes = ⊥
HeadAlone (and_text nodes own) = IsBlank own.said × HeadAlone nodes
HeadAlone (and_comment nodes bytes) = HeadAlone nodes
HeadAlone (and_doctype nodes own) = ⊥
HeadAlone (and_element nodes tag children) = IsHead tag × AreComments nodes

-- and then `body` or `frameset`, and anything
abbrev pub BodyNext : Nodes → Type 0
BodyNext no_nodes = ⊥
BodyNext (and_text nodes bytes) = BodyNext nodes
BodyNext (and_comment nodes bytes) = BodyNext nodes
BodyNext (and_doctype nodes own) = BodyNext nodes
BodyNext (and_element nodes tag children) = BodyNext nodes ⊎ (IsBody tag × HeadAlone nodes)

-- `html` with these in it, and with comments alone behind it
abbrev pub HtmlAlone : Nodes → Type 0
HtmlAlone no_nodes = ⊥
HtmlAlone (and_text nodes bytes) = ⊥
HtmlAlone (and_comment nodes bytes) = HtmlAlone nodes
HtmlAlone (and_doctype nodes own) = ⊥
HtmlAlone (and_element nodes tag children) = IsHtml tag × ArePlain nodes × BodyNext children

body_no_head : (t : Tag) → IsBody t → is_any (codes "head") t ≡ false
body_no_head t e =
    and_right (is_html t) (is_one_of (codes "head") t.name)
    (any_word (λ name. is_one_of (codes "head") name ≡ false) (words (codes "body frameset")) t.name (refl, (refl, tt)) (and_parts (is_html t) (is_one_of (codes "body frameset") t.name) e).1)

pub with_text-alone : (nodes : Nodes) (bytes : Marked (List ℕ)) → IsBlank bytes.said → HeadAlone nodes → HeadAlone (with_text nodes bytes)
with_text-alone no_nodes bytes b h = absurd h
with_text-alone (and_text nodes own) bytes b h = (each_append (λ c. is_ascii_whitespace c ≡ true) own.said bytes.said h.0 b, h.1)
with_text-alone (and_comment nodes own) bytes b h = (b, h)
with_text-alone (and_doctype nodes own) bytes b h = absurd h
with_text-alone (and_element nodes tag children) bytes b h = (b, h)

pub joined-alone : (nodes more : Nodes) → HeadAlone nodes → AreComments more → HeadAlone (joined nodes more)
joined-alone nodes no_nodes h k = h
joined-alone nodes (and_text more bytes) h k = absurd k
joined-alone nodes (and_comment more bytes) h k = joined-alone nodes more h k
joined-alone nodes (and_doctype more own) h k = absurd k
joined-alone nodes (and_element more tag children) h k = absurd k

with_text-body : (nodes : Nodes) (bytes : Marked (List ℕ)) → BodyNext nodes → BodyNext (with_text nodes bytes)
with_text-body no_nodes bytes h = h
with_text-body (and_text nodes own) bytes h = h
with_text-body (and_comment nodes own) bytes h = h
with_text-body (and_doctype nodes own) bytes h = h
with_text-body (and_element nodes tag children) bytes h = h

pub joined-body : (nodes more : Nodes) → BodyNext nodes → BodyNext (joined nodes more)
joined-body nodes no_nodes h = h
joined-body nodes (and_text more bytes) h = with_text-body (joined nodes more) bytes (joined-body nodes more h)
joined-body nodes (and_comment more bytes) h = joined-body nodes more h
joined-body nodes (and_doctype more own) h = joined-body nodes more h
joined-body nodes (and_element more tag children) h = inl (joined-body nodes more h)

pub joined-html : (nodes more : Nodes) → HtmlAlone nodes → AreComments more → HtmlAlone (joined nodes more)
joined-html nodes no_nodes h k = h
joined-html nodes (and_text more bytes) h k = absurd k
joined-html nodes (and_comment more bytes) h k = joined-html nodes more h k
joined-html nodes (and_doctype more own) h k = absurd k
joined-html nodes (and_element more tag children) h k = absurd k

pub joined-plain : (nodes more : Nodes) → ArePlain nodes → ArePlain more → ArePlain (joined nodes more)
joined-plain nodes no_nodes h k = h
joined-plain nodes (and_text more bytes) h k = absurd k
joined-plain nodes (and_comment more bytes) h k = joined-plain nodes more h k
joined-plain nodes (and_doctype more own) h k = joined-plain nodes more h k
joined-plain nodes (and_element more tag children) h k = absurd k

pub joined-comments : (nodes more : Nodes) → AreComments nodes → AreComments more → AreComments (joined nodes more)
joined-comments nodes no_nodes h k = h
joined-comments nodes (and_text more bytes) h k = absurd k
joined-comments nodes (and_comment more bytes) h k = joined-comments nodes more h k
joined-comments nodes (and_doctype more own) h k = absurd k
joined-comments nodes (and_element more tag children) h k = absurd k

pub at_head-alone : (nodes new : Nodes) → HeadAlone nodes → HeadAlone (at_head nodes new)
at_head-alone no_nodes new h = h
at_head-alone (and_text nodes bytes) new h = (h.0, at_head-alone nodes new h.1)
at_head-alone (and_comment nodes bytes) new h = at_head-alone nodes new h
at_head-alone (and_doctype nodes own) new h = absurd h
at_head-alone (and_element nodes tag children) new h =
    cond_both (is_any (codes "head") tag) _ _ HeadAlone (λ _. h) (λ e. absurd (true≢false (sym h.0 ∙ e)))

pub at_head-body : (nodes new : Nodes) → BodyNext nodes → BodyNext (at_head nodes new)
at_head-body no_nodes new h = h
at_head-body (and_text nodes bytes) new h = at_head-body nodes new h
at_head-body (and_comment nodes bytes) new h = at_head-body nodes new h
at_head-body (and_doctype nodes own) new h = at_head-body nodes new h
at_head-body (and_element nodes tag children) new h =
    cond_both (is_any (codes "head") tag) _ _ BodyNext
    (λ e. elim h [ inl x ↦ inl x | inr x ↦ absurd (true≢false (sym e ∙ body_no_head tag x.0)) ])
    (λ _. elim h [ inl x ↦ inl (at_head-body nodes new x) | inr x ↦ inr (x.0, at_head-alone nodes new x.1) ])

-- frames

pub record IsDocument (d : Frame) : Type 0 where
  pub number : d.number ≡ 0
  pub closed : d.is_open ≡ false
  pub plain : ArePlain d.children
  pub notes : AreComments d.waiting

pub record IsRoot (h : Frame) : Type 0 where
  pub number : h.number ≡ 1
  pub open_still : h.is_open ≡ true
  pub tag : IsHtml h.tag
  pub place : h.place ≡ here

pub record IsHeadFrame (f : Frame) : Type 0 where
  pub number : f.number ≡ 2
  pub open_still : f.is_open ≡ true
  pub tag : IsHead f.tag
  pub place : f.place ≡ here

-- `html` before its body, by where the next one goes: `head` is open, or settled
pub data Rest : Place → Path → Type 0 where
  under_head : (f h d : Frame) → IsHeadFrame f → IsRoot h → AreComments h.children → AreComments h.waiting → IsDocument d → Rest here (f ∷ h ∷ d ∷ [])
  behind_head : (h d : Frame) → IsRoot h → HeadAlone h.children → AreComments h.waiting → IsDocument d → Rest into_head (h ∷ d ∷ [])

-- names of elements that are not popped but by rules of their own
abbrev pub bar_names : List ℕ
bar_names = codes "html template body frameset td th"

abbrev pub IsCell : Tag → Type 0
IsCell t = is_any (codes "td th") t ≡ true

-- none of these, and an HTML element
abbrev pub Unbarred : Tag → Type 0
Unbarred t = (is_any bar_names t ≡ false) × (is_html t ≡ true)

-- where an element or a text may go: the lowest number is 3 before the body, 2 where the body is open, 1 where it is settled
abbrev pub Placed : ℕ → Bool → Place → Type 0
Placed low ok here = ⊤
Placed low ok (into k) = (1 ≤ k) × (2 ≤ low → 2 ≤ k)
Placed low ok (behind k) = (1 ≤ k) × (3 ≤ low → 2 ≤ k) × (ok ≡ true → 2 ≤ k)
Placed low ok into_head = (low ≡ 1)

pub record Tagged (low : ℕ) (ok : Bool) (t : Tag) : Type 0 where
  pub no_root : is_any (codes "html head") t ≡ false
  pub no_body : 3 ≤ low → is_any (codes "body frameset") t ≡ false
  pub no_template : ok ≡ true → is_template t ≡ false

-- S has the numbers of all elements that were ever listed as active or named by the form element pointer, L of those that are listed now;
-- all numbers are below N
further_in : (x y z : Bool) → x ≡ false → (x || (y && z)) ≡ true → z ≡ true
further_in x y z n e = (and_parts y z (sym (ap (λ w. w || (y && z)) n) ∙ e)).1

module _ (S L : List ℕ) (N : ℕ) (ok : Bool) where
  pub record Loose (low : ℕ) (f : Frame) : Type 0 where
    pub above : 2 < f.number
    pub below : f.number < N
    pub place : Placed low ok f.place
    pub tag : Tagged low ok f.tag
    pub bars : IsIn f.number S → Unbarred f.tag
    pub still : IsIn f.number L → f.is_open ≡ true
    pub shut : f.is_open ≡ false → is_html f.tag ≡ true

  pub record IsBar (m : ℕ) (tg : Tag) (f : Frame) : Type 0 where
    pub number : f.number ≡ m
    pub above : 2 < m
    pub below : m < N
    pub open_still : f.is_open ≡ true
    pub tag : f.tag ≡ tg
    pub bars : IsIn m S → ⊥

  -- by the number and the tag of the innermost frame that stays
  pub data Seated : ℕ → ℕ → Tag → Path → Type 0 where
    high : {m : ℕ} {tg : Tag} (t : Frame) (rest : Path) → IsBar m tg t → is_template tg ≡ true → Rest t.place rest → Seated 3 m tg (t ∷ rest)
    bodied : {m : ℕ} {tg : Tag} (g h d : Frame) → IsBar m tg g → g.place ≡ here → IsBody tg → IsRoot h → HeadAlone h.children → (ok ≡ true → AreComments h.waiting) → IsDocument d →
        Seated 2 m tg (g ∷ h ∷ d ∷ [])
    rooted : {tg : Tag} (h d : Frame) → IsRoot h → h.tag ≡ tg → BodyNext h.children → IsDocument d → Seated 1 1 tg (h ∷ d ∷ [])
    cell : {low m n : ℕ} {tg own : Tag} (f : Frame) (path : Path) → IsBar m tg f → Loose low f → IsCell tg → Seated low n own path → Seated low m tg (f ∷ path)
    inside : {low m : ℕ} {tg : Tag} (f : Frame) (path : Path) → Loose low f → Seated low m tg path → Seated low m tg (f ∷ path)

  -- changes of what is in a frame

  pub record Grows (change : Frame → Frame) : Type 0 where
    pub number : (f : Frame) → (change f).number ≡ f.number
    pub tag : (f : Frame) → (change f).tag ≡ f.tag
    pub open_still : (f : Frame) → (change f).is_open ≡ f.is_open
    pub place : (f : Frame) → (change f).place ≡ f.place
    pub body : (f : Frame) → BodyNext f.children → BodyNext (change f).children

  root-grown : (c : Frame → Frame) (h : Frame) → Grows c → IsRoot h → IsRoot (c h)
  root-grown c h g r = record {
    number = g.number h ∙ r.number;
    open_still = g.open_still h ∙ r.open_still;
    tag = subst IsHtml (sym (g.tag h)) r.tag;
    place = g.place h ∙ r.place;
  }

  head-grown : (c : Frame → Frame) (f : Frame) → Grows c → IsHeadFrame f → IsHeadFrame (c f)
  head-grown c f g r = record {
    number = g.number f ∙ r.number;
    open_still = g.open_still f ∙ r.open_still;
    tag = subst IsHead (sym (g.tag f)) r.tag;
    place = g.place f ∙ r.place;
  }

  bar-grown : {m : ℕ} {tg : Tag} (c : Frame → Frame) (f : Frame) → Grows c → IsBar m tg f → IsBar m tg (c f)
  bar-grown c f g r = record {
    number = g.number f ∙ r.number;
    above = r.above;
    below = r.below;
    open_still = g.open_still f ∙ r.open_still;
    tag = g.tag f ∙ r.tag;
    bars = r.bars;
  }

  loose-grown : {low : ℕ} (c : Frame → Frame) (f : Frame) → Grows c → Loose low f → Loose low (c f)
  loose-grown {low} c f g r = record {
    above = subst (λ x. 2 < x) (sym (g.number f)) r.above;
    below = subst (λ x. x < N) (sym (g.number f)) r.below;
    place = subst (Placed low ok) (sym (g.place f)) r.place;
    tag = subst (Tagged low ok) (sym (g.tag f)) r.tag;
    bars = λ i. subst Unbarred (sym (g.tag f)) (r.bars (subst (λ x. IsIn x S) (g.number f) i));
    still = λ i. g.open_still f ∙ r.still (subst (λ x. IsIn x L) (g.number f) i);
    shut = λ e. subst (λ x. is_html x ≡ true) (sym (g.tag f)) (r.shut (sym (g.open_still f) ∙ e));
  }

  pub on_top-Seated : {low m : ℕ} {tg : Tag} {path : Path} (c : Frame → Frame) → Grows c → Seated low m tg path → Seated low m tg (on_top c path)
  on_top-Seated c g (high t rest b i r) = high (c t) rest (bar-grown c t g b) i (subst (λ x. Rest x rest) (sym (g.place t)) r)
  on_top-Seated c g (bodied o h d b p i r a w e) = bodied (c o) h d (bar-grown c o g b) (g.place o ∙ p) i r a w e
  on_top-Seated c g (rooted h d r e n k) = rooted (c h) d (root-grown c h g r) (g.tag h ∙ e) (g.body h n) k
  on_top-Seated c g (cell f p b l i s) = cell (c f) p (bar-grown c f g b) (loose-grown c f g l) i s
  on_top-Seated c g (inside f p l s) = inside (c f) p (loose-grown c f g l) s

  -- at the frame of a number

  other_number : (j k n : ℕ) → j ≡ n → n < k → (j == k) ≡ false
  other_number j k n e l = grind (arith, nat_tests)

  abbrev chosen : ℕ → (Frame → Frame) → Frame → Frame
  chosen k c f = if f.number == k then c f else f

  chosen-grows : (k : ℕ) (c : Frame → Frame) → Grows c → Grows (chosen k c)
  chosen-grows k c g = record {
    number = λ f. cond_both (f.number == k) (c f) f (λ x. x.number ≡ f.number) (λ _. g.number f) (λ _. refl);
    tag = λ f. cond_both (f.number == k) (c f) f (λ x. x.tag ≡ f.tag) (λ _. g.tag f) (λ _. refl);
    open_still = λ f. cond_both (f.number == k) (c f) f (λ x. x.is_open ≡ f.is_open) (λ _. g.open_still f) (λ _. refl);
    place = λ f. cond_both (f.number == k) (c f) f (λ x. x.place ≡ f.place) (λ _. g.place f) (λ _. refl);
    body = λ f h. cond_both (f.number == k) (c f) f (λ x. BodyNext x.children) (λ _. g.body f h) (λ _. h);
  }

  unchosen : (k n : ℕ) (c : Frame → Frame) (f : Frame) → f.number ≡ n → n < k → chosen k c f ≡ f
  unchosen k n c f e l = ap (λ (x : Bool). if x then c f else f) (other_number f.number k n e l)

  pub rest-chosen : {place : Place} {rest : Path} (k : ℕ) (c : Frame → Frame) → 2 ≤ k → Grows c → Rest place rest → Rest place (at_number k c rest)
  rest-chosen k c l g (under_head f h d q r i w e) =
      subst (λ x. Rest here (chosen k c f ∷ chosen k c h ∷ x ∷ [])) (sym (unchosen k 0 c d e.number (omega (arith, l))))
      (subst (λ x. Rest here (chosen k c f ∷ x ∷ d ∷ [])) (sym (unchosen k 1 c h r.number (omega (arith, l))))
      (under_head (chosen k c f) h d (head-grown (chosen k c) f (chosen-grows k c g) q) r i w e))
  rest-chosen k c l g (behind_head h d r i w e) =
      subst (λ x. Rest into_head (chosen k c h ∷ x ∷ [])) (sym (unchosen k 0 c d e.number (omega (arith, l))))
      (subst (λ x. Rest into_head (x ∷ d ∷ [])) (sym (unchosen k 1 c h r.number (omega (arith, l)))) (behind_head h d r i w e))

  pub at_number-Seated : {low m : ℕ} {tg : Tag} {path : Path} (k : ℕ) (c : Frame → Frame) → 1 ≤ k → (2 ≤ low → 2 ≤ k) → Grows c → Seated low m tg path → Seated low m tg (at_number k c path)
  at_number-Seated k c o l g (high t rest b i r) =
      let d = chosen-grows k c g in
      high (chosen k c t) (at_number k c rest) (bar-grown (chosen k c) t d b) i
      (subst (λ x. Rest x (at_number k c rest)) (sym (d.place t)) (rest-chosen k c (l (omega arith)) g r))
  at_number-Seated {m} {tg} k c o l g (bodied f h d b p i r a w e) =
      let y = chosen-grows k c g in
      subst (λ x. Seated 2 m tg (chosen k c f ∷ chosen k c h ∷ x ∷ [])) (sym (unchosen k 0 c d e.number (omega (arith, o))))
      (subst (λ x. Seated 2 m tg (chosen k c f ∷ x ∷ d ∷ [])) (sym (unchosen k 1 c h r.number (omega (arith, l (omega arith)))))
      (bodied (chosen k c f) h d (bar-grown (chosen k c) f y b) (y.place f ∙ p) i r a w e))
  at_number-Seated {tg} k c o l g (rooted h d r e n b) =
      let y = chosen-grows k c g in
      subst (λ x. Seated 1 1 tg (chosen k c h ∷ x ∷ [])) (sym (unchosen k 0 c d b.number (omega (arith, o))))
      (rooted (chosen k c h) d (root-grown (chosen k c) h y r) (y.tag h ∙ e) (y.body h n) b)
  at_number-Seated k c o l g (cell f p b q i s) =
      let y = chosen-grows k c g in
      cell (chosen k c f) (at_number k c p) (bar-grown (chosen k c) f y b) (loose-grown (chosen k c) f y q) i (at_number-Seated k c o l g s)
  at_number-Seated k c o l g (inside f p q s) =
      inside (chosen k c f) (at_number k c p) (loose-grown (chosen k c) f (chosen-grows k c g) q) (at_number-Seated k c o l g s)

  -- behind the child that is still open

  pub caught_up-Grows : Grows caught_up
  caught_up-Grows = record { number = λ _. refl; tag = λ _. refl; open_still = λ _. refl; place = λ _. refl; body = λ f h. joined-body f.children f.waiting h }

  pub with_nodes-Grows : (nodes : Nodes) → Grows (with_nodes nodes)
  with_nodes-Grows nodes = record { number = λ _. refl; tag = λ _. refl; open_still = λ _. refl; place = λ _. refl; body = λ f h. joined-body f.children nodes h }

  with_waiting-Grows : (nodes : Nodes) → Grows (with_waiting nodes)
  with_waiting-Grows nodes = record { number = λ _. refl; tag = λ _. refl; open_still = λ _. refl; place = λ _. refl; body = λ f h. h }

  into_head-Grows : (nodes : Nodes) → Grows (λ (f : Frame). record f { children = at_head f.children nodes })
  into_head-Grows nodes = record { number = λ _. refl; tag = λ _. refl; open_still = λ _. refl; place = λ _. refl; body = λ f h. at_head-body f.children nodes h }

  then-Grows : (first second : Frame → Frame) → Grows first → Grows second → Grows (λ (f : Frame). second (first f))
  then-Grows first second g k = record {
    number = λ f. k.number (first f) ∙ g.number f;
    tag = λ f. k.tag (first f) ∙ g.tag f;
    open_still = λ f. k.open_still (first f) ∙ g.open_still f;
    place = λ f. k.place (first f) ∙ g.place f;
    body = λ f h. k.body (first f) (g.body f h);
  }

  waiting-root : (k : ℕ) (nodes : Nodes) (h : Frame) → IsRoot h → IsRoot (chosen k (with_waiting nodes) h)
  waiting-root k nodes h r = root-grown (chosen k (with_waiting nodes)) h (chosen-grows k (with_waiting nodes) (with_waiting-Grows nodes)) r

  waiting-children : (P : Nodes → Type 0) (k : ℕ) (nodes : Nodes) (h : Frame) → P h.children → P (chosen k (with_waiting nodes) h).children
  waiting-children P k nodes h i = cond_both (h.number == k) (with_waiting nodes h) h (λ x. P x.children) (λ _. i) (λ _. i)

  pub behind-Seated : {low m : ℕ} {tg : Tag} {path : Path} (k : ℕ) (nodes : Nodes) → 1 ≤ k → (3 ≤ low → 2 ≤ k) → (ok ≡ true → 2 ≤ k) → Seated low m tg path →
      Seated low m tg (at_number k (with_waiting nodes) path)
  behind-Seated k nodes o l q (high t rest b i r) = at_number-Seated k (with_waiting nodes) o (λ _. l (omega arith)) (with_waiting-Grows nodes) (high t rest b i r)
  behind-Seated {m} {tg} k nodes o l q (bodied f h d b p i r a w e) =
      let c : Frame → Frame = with_waiting nodes in
      let y = chosen-grows k c (with_waiting-Grows nodes) in
      subst (λ x. Seated 2 m tg (chosen k c f ∷ chosen k c h ∷ x ∷ [])) (sym (unchosen k 0 c d e.number (omega (arith, o))))
      (bodied (chosen k c f) (chosen k c h) d (bar-grown (chosen k c) f y b) (y.place f ∙ p) i (waiting-root k nodes h r) (waiting-children HeadAlone k nodes h a)
      (λ y. subst (λ x. AreComments x.waiting) (sym (unchosen k 1 c h r.number (omega (arith, q y)))) (w y)) e)
  behind-Seated k nodes o l q (rooted h d r e n b) = at_number-Seated k (with_waiting nodes) o (λ two. absurd (omega (arith, two))) (with_waiting-Grows nodes) (rooted h d r e n b)
  behind-Seated k nodes o l q (cell f p b x i s) =
      let y = chosen-grows k (with_waiting nodes) (with_waiting-Grows nodes) in
      cell (chosen k (with_waiting nodes) f) (at_number k (with_waiting nodes) p) (bar-grown (chosen k (with_waiting nodes)) f y b) (loose-grown (chosen k (with_waiting nodes)) f y x) i
      (behind-Seated k nodes o l q s)
  behind-Seated k nodes o l q (inside f p x s) =
      inside (chosen k (with_waiting nodes) f) (at_number k (with_waiting nodes) p)
      (loose-grown (chosen k (with_waiting nodes)) f (chosen-grows k (with_waiting nodes) (with_waiting-Grows nodes)) x) (behind-Seated k nodes o l q s)

  -- a comment may wait behind any frame

  abbrev note : Marked (List ℕ) → Nodes
  note bytes = and_comment no_nodes bytes

  noted-comments : (k : ℕ) (bytes : Marked (List ℕ)) (h : Frame) → AreComments h.waiting → AreComments (chosen k (with_waiting (note bytes)) h).waiting
  noted-comments k bytes h w = cond_both (h.number == k) (with_waiting (note bytes) h) h (λ x. AreComments x.waiting) (λ _. w) (λ _. w)

  document-noted : (k : ℕ) (bytes : Marked (List ℕ)) (d : Frame) → IsDocument d → IsDocument (chosen k (with_waiting (note bytes)) d)
  document-noted k bytes d e =
      let g = chosen-grows k (with_waiting (note bytes)) (with_waiting-Grows (note bytes)) in
      record {
        number = g.number d ∙ e.number;
        closed = g.open_still d ∙ e.closed;
        plain = waiting-children ArePlain k (note bytes) d e.plain;
        notes = noted-comments k bytes d e.notes;
      }

  pub rest-noted : {place : Place} {rest : Path} (k : ℕ) (bytes : Marked (List ℕ)) → Rest place rest → Rest place (at_number k (with_waiting (note bytes)) rest)
  rest-noted k bytes (under_head f h d q r i w e) =
      let c : Frame → Frame = with_waiting (note bytes) in
      under_head (chosen k c f) (chosen k c h) (chosen k c d) (head-grown (chosen k c) f (chosen-grows k c (with_waiting-Grows (note bytes))) q) (waiting-root k (note bytes) h r)
      (waiting-children AreComments k (note bytes) h i) (noted-comments k bytes h w) (document-noted k bytes d e)
  rest-noted k bytes (behind_head h d r i w e) =
      let c : Frame → Frame = with_waiting (note bytes) in
      behind_head (chosen k c h) (chosen k c d) (waiting-root k (note bytes) h r) (waiting-children HeadAlone k (note bytes) h i) (noted-comments k bytes h w) (document-noted k bytes d e)

  pub note-Seated : {low m : ℕ} {tg : Tag} {path : Path} (k : ℕ) (bytes : Marked (List ℕ)) → Seated low m tg path → Seated low m tg (at_number k (with_waiting (note bytes)) path)
  note-Seated k bytes (high t rest b i r) =
      let y = chosen-grows k (with_waiting (note bytes)) (with_waiting-Grows (note bytes)) in
      high (chosen k (with_waiting (note bytes)) t) (at_number k (with_waiting (note bytes)) rest) (bar-grown (chosen k (with_waiting (note bytes))) t y b) i
      (subst (λ x. Rest x (at_number k (with_waiting (note bytes)) rest)) (sym (y.place t)) (rest-noted k bytes r))
  note-Seated k bytes (bodied f h d b p i r a w e) =
      let c : Frame → Frame = with_waiting (note bytes) in
      let y = chosen-grows k c (with_waiting-Grows (note bytes)) in
      bodied (chosen k c f) (chosen k c h) (chosen k c d) (bar-grown (chosen k c) f y b) (y.place f ∙ p) i (waiting-root k (note bytes) h r)
      (waiting-children HeadAlone k (note bytes) h a) (λ o. noted-comments k bytes h (w o)) (document-noted k bytes d e)
  note-Seated k bytes (rooted h d r e n b) =
      let c : Frame → Frame = with_waiting (note bytes) in
      let y = chosen-grows k c (with_waiting-Grows (note bytes)) in
      rooted (chosen k c h) (chosen k c d) (waiting-root k (note bytes) h r) (y.tag h ∙ e) (y.body h n) (document-noted k bytes d b)
  note-Seated k bytes (cell f p b x i s) =
      let y = chosen-grows k (with_waiting (note bytes)) (with_waiting-Grows (note bytes)) in
      cell (chosen k (with_waiting (note bytes)) f) (at_number k (with_waiting (note bytes)) p) (bar-grown (chosen k (with_waiting (note bytes))) f y b)
      (loose-grown (chosen k (with_waiting (note bytes))) f y x) i (note-Seated k bytes s)
  note-Seated k bytes (inside f p x s) =
      inside (chosen k (with_waiting (note bytes)) f) (at_number k (with_waiting (note bytes)) p)
      (loose-grown (chosen k (with_waiting (note bytes))) f (chosen-grows k (with_waiting (note bytes)) (with_waiting-Grows (note bytes))) x) (note-Seated k bytes s)

  -- places

  pub put-Seated : {low m : ℕ} {tg : Tag} {path : Path} (place : Place) (nodes : Nodes) → Placed low ok place → Seated low m tg path → Seated low m tg (put place nodes path)
  put-Seated here nodes p s = on_top-Seated _ (then-Grows caught_up (with_nodes nodes) caught_up-Grows (with_nodes-Grows nodes)) s
  put-Seated (into k) nodes p s = at_number-Seated k (with_nodes nodes) p.0 p.1 (with_nodes-Grows nodes) s
  put-Seated (behind k) nodes p s = behind-Seated k nodes p.0 p.1 p.2 s
  put-Seated into_head nodes p s = on_top-Seated _ (into_head-Grows nodes) s

  pub settled_at-Seated : {low m : ℕ} {tg : Tag} {path : Path} (place : Place) (nodes : Nodes) → Placed low ok place → Seated low m tg path → Seated low m tg (settled_at place nodes path)
  settled_at-Seated here nodes p s = on_top-Seated _ (then-Grows (with_nodes nodes) caught_up (with_nodes-Grows nodes) caught_up-Grows) s
  settled_at-Seated (into k) nodes p s = put-Seated (into k) nodes p s
  settled_at-Seated (behind k) nodes p s = put-Seated (behind k) nodes p s
  settled_at-Seated into_head nodes p s = put-Seated into_head nodes p s

  top_inside : {low m : ℕ} {tg : Tag} {path : Path} (f : Frame) → Seated low m tg path → top_settled (f ∷ path) ≡ settled_at f.place (node_of f) path
  top_inside f (high t rest b i r) = refl
  top_inside f (bodied g h d b p i r a w e) = refl
  top_inside f (rooted h d r e n b) = refl
  top_inside f (cell g p b x i s) = refl
  top_inside f (inside g p x s) = refl

  pub off-Seated : {low m : ℕ} {tg : Tag} {path : Path} (f : Frame) → Placed low ok f.place → Seated low m tg path → Seated low m tg (top_settled (f ∷ path))
  off-Seated {low} {m} {tg} {path} f p s = subst (Seated low m tg) (sym (top_inside f s)) (settled_at-Seated f.place (node_of f) p s)

  -- frames are settled up to the one that stays

  abbrev tested : (ℕ → Tag → Bool) → Frame → Bool
  tested r f = r f.number f.tag

  pub stays : (test : Frame → Bool) (count : Path) (f : Frame) (path : Path) → (not f.is_open || test f) ≡ false → settled_while test count (f ∷ path) ≡ f ∷ path
  stays test [] f path e = refl
  stays test (c ∷ count) f path e =
      ap (λ v. elim v as (λ _. Path) [
        | true ↦ settled_while test count (top_settled (f ∷ path))
        | false ↦ f ∷ path
      ]) e

  bar-stays : {m : ℕ} {tg : Tag} (r : ℕ → Tag → Bool) (f : Frame) → IsBar m tg f → r m tg ≡ false → (not f.is_open || r f.number f.tag) ≡ false
  bar-stays {m} {tg} r f b e = or_from (not f.is_open) (r f.number f.tag) (ap not b.open_still) (ap (λ n. r n f.tag) b.number ∙ (ap (r m) b.tag ∙ e))

  root-stays : (r : ℕ → Tag → Bool) (h : Frame) → IsRoot h → r 1 h.tag ≡ false → (not h.is_open || r h.number h.tag) ≡ false
  root-stays r h b e = or_from (not h.is_open) (r h.number h.tag) (ap not b.open_still) (ap (λ n. r n h.tag) b.number ∙ e)

  pub settled_while-Seated : {low m : ℕ} {tg : Tag} (r : ℕ → Tag → Bool) (count path : Path) → r m tg ≡ false → Seated low m tg path → Seated low m tg (settled_while (tested r) count path)
  settled_while-Seated {m} {tg} r count path e (high t rest b i k) = subst (Seated 3 m tg) (sym (stays (tested r) count t rest (bar-stays r t b e))) (high t rest b i k)
  settled_while-Seated {m} {tg} r count path e (bodied g h d b p i k a w n) =
      subst (Seated 2 m tg) (sym (stays (tested r) count g (h ∷ d ∷ []) (bar-stays r g b e))) (bodied g h d b p i k a w n)
  settled_while-Seated {tg} r count path e (rooted h d k t n b) =
      subst (Seated 1 1 tg) (sym (stays (tested r) count h (d ∷ []) (root-stays r h k (ap (r 1) t ∙ e)))) (rooted h d k t n b)
  settled_while-Seated {low} {m} {tg} r count path e (cell f p b l i s) = subst (Seated low m tg) (sym (stays (tested r) count f p (bar-stays r f b e))) (cell f p b l i s)
  settled_while-Seated r [] path e (inside f p l s) = inside f p l s
  settled_while-Seated {low} {m} {tg} r (c ∷ count) path e (inside f p l s) =
      elim (not f.is_open || r f.number f.tag) as (λ v. Seated low m tg (elim v as (λ _. Path) [
        | true ↦ settled_while (tested r) count (top_settled (f ∷ p))
        | false ↦ f ∷ p
      ])) [
        | true ↦ settled_while-Seated r count (top_settled (f ∷ p)) e (off-Seated f l.place s)
        | false ↦ inside f p l s
      ]

  pub template_no_body : (t : Tag) → is_template t ≡ true → IsBody t → ⊥
  template_no_body t e i =
      true≢false (sym i ∙ and_right (is_html t) (is_one_of (codes "body frameset") t.name)
      (any_word (λ name. is_one_of (codes "body frameset") name ≡ false) (words (codes "template")) t.name (refl, tt) (and_parts (is_html t) (is_one_of (codes "template") t.name) e).1))

  pub cell_no_body : (t : Tag) → IsCell t → IsBody t → ⊥
  cell_no_body t e i =
      true≢false (sym i ∙ and_right (is_html t) (is_one_of (codes "body frameset") t.name)
      (any_word (λ name. is_one_of (codes "body frameset") name ≡ false) (words (codes "td th")) t.name (refl, (refl, tt)) (and_parts (is_html t) (is_one_of (codes "td th") t.name) e).1))

  -- the body may be settled too, where an element is looked for that `html` is
  abbrev pub Falls : ℕ → Path → Type 0
  Falls low path = (least m : ℕ) × (tg : Tag) × (least ≤ low) × (3 ≤ low → 3 ≤ least) × Seated least m tg path

  pub body-settled : {m : ℕ} {tg : Tag} (g h d : Frame) → IsBar m tg g → g.place ≡ here → IsBody tg → IsRoot h → HeadAlone h.children → IsDocument d → Seated 1 1 h.tag (top_settled (g ∷ h ∷ d ∷ []))
  body-settled g h d b p i r a e =
      subst (λ x. Seated 1 1 h.tag (settled_at x (node_of g) (h ∷ d ∷ []))) (sym p)
      (rooted (caught_up (with_nodes (node_of g) h)) d
      (record { number = r.number; open_still = r.open_still; tag = r.tag; place = r.place }) refl
      (joined-body (joined h.children (node_of g)) h.waiting (inr (subst IsBody (sym b.tag) i, a))) e)

  pub falling : {low m : ℕ} {tg : Tag} (r : ℕ → Tag → Bool) (count path : Path) → (IsBody tg ⊎ (r m tg ≡ false)) → ((t : Tag) → IsHtml t → r 1 t ≡ false) → Seated low m tg path → Falls low (settled_while (tested r) count path)
  falling {m} {tg} r count path (inl x) w (high t rest b i k) = absurd (template_no_body tg i x)
  falling {m} {tg} r count path (inr e) w (high t rest b i k) = (3, m, tg, omega arith, (λ l. l), settled_while-Seated r count path e (high t rest b i k))
  falling {m} {tg} r [] path e w (bodied g h d b p i k a z n) = (2, m, tg, omega arith, (λ l. l), bodied g h d b p i k a z n)
  falling {m} {tg} r (c ∷ count) path e w (bodied g h d b p i k a z n) =
      elim (not g.is_open || r g.number g.tag) as (λ v. Falls 2 (elim v as (λ _. Path) [
        | true ↦ settled_while (tested r) count (top_settled (g ∷ h ∷ d ∷ []))
        | false ↦ g ∷ h ∷ d ∷ []
      ])) [
        | true ↦ (1, 1, h.tag, omega arith, (λ l. absurd (omega (arith, l))), settled_while-Seated r count (top_settled (g ∷ h ∷ d ∷ [])) (w h.tag k.tag) (body-settled g h d b p i k a n))
        | false ↦ (2, m, tg, omega arith, (λ l. l), bodied g h d b p i k a z n)
      ]
  falling {tg} r count path e w (rooted h d k t n b) = (1, 1, tg, omega arith, (λ l. l), settled_while-Seated r count path (ap (r 1) (sym t) ∙ w h.tag k.tag) (rooted h d k t n b))
  falling {m} {tg} r count path (inl x) w (cell f p b l i s) = absurd (cell_no_body tg i x)
  falling {low} {m} {tg} r count path (inr e) w (cell f p b l i s) = (low, m, tg, omega arith, (λ x. x), settled_while-Seated r count path e (cell f p b l i s))
  falling {low} {m} {tg} r [] path e w (inside f p l s) = (low, m, tg, omega arith, (λ x. x), inside f p l s)
  falling {low} {m} {tg} r (c ∷ count) path e w (inside f p l s) =
      elim (not f.is_open || r f.number f.tag) as (λ v. Falls low (elim v as (λ _. Path) [
        | true ↦ settled_while (tested r) count (top_settled (f ∷ p))
        | false ↦ f ∷ p
      ])) [
        | true ↦ falling r count (top_settled (f ∷ p)) e w (off-Seated f l.place s)
        | false ↦ (low, m, tg, omega arith, (λ x. x), inside f p l s)
      ]

  abbrev never : ℕ → Tag → Bool
  never n t = false

  pub settled-Seated : {low m : ℕ} {tg : Tag} (path : Path) → Seated low m tg path → Seated low m tg (settled path)
  settled-Seated path s = settled_while-Seated never path path refl s

  -- an element that passes a test stands further in
  pub data Sought (r : ℕ → Tag → Bool) : ℕ → ℕ → Tag → Path → Type 0 where
    found : {low m : ℕ} {tg : Tag} (f : Frame) (path : Path) → Loose low f → f.is_open ≡ true → r f.number f.tag ≡ true → Seated low m tg path → Sought r low m tg (f ∷ path)
    past : {low m : ℕ} {tg : Tag} (f : Frame) (path : Path) → Loose low f → Sought r low m tg path → Sought r low m tg (f ∷ path)

  pub unsought : {r : ℕ → Tag → Bool} {low m : ℕ} {tg : Tag} {path : Path} → Sought r low m tg path → Seated low m tg path
  unsought (found f p l o e s) = inside f p l s
  unsought (past f p l s) = inside f p l (unsought s)

  same_test : (r : ℕ → Tag → Bool) (c : Frame → Frame) (f : Frame) → Grows c → r (c f).number (c f).tag ≡ r f.number f.tag
  same_test r c f g = ap (λ n. r n (c f).tag) (g.number f) ∙ ap (r f.number) (g.tag f)

  on_top-Sought : {r : ℕ → Tag → Bool} {low m : ℕ} {tg : Tag} {path : Path} (c : Frame → Frame) → Grows c → Sought r low m tg path → Sought r low m tg (on_top c path)
  on_top-Sought {r} c g (found f p l o e s) = found (c f) p (loose-grown c f g l) (g.open_still f ∙ o) (same_test r c f g ∙ e) s
  on_top-Sought c g (past f p l s) = past (c f) p (loose-grown c f g l) s

  at_number-Sought : {r : ℕ → Tag → Bool} {low m : ℕ} {tg : Tag} {path : Path} (k : ℕ) (c : Frame → Frame) → Grows c →
      ((p : Path) → Seated low m tg p → Seated low m tg (at_number k c p)) → Sought r low m tg path → Sought r low m tg (at_number k c path)
  at_number-Sought {r} k c g w (found f p l o e s) =
      let y = chosen-grows k c g in
      found (chosen k c f) (at_number k c p) (loose-grown (chosen k c) f y l) (y.open_still f ∙ o) (same_test r (chosen k c) f y ∙ e) (w p s)
  at_number-Sought k c g w (past f p l s) = past (chosen k c f) (at_number k c p) (loose-grown (chosen k c) f (chosen-grows k c g) l) (at_number-Sought k c g w s)

  settled_at-Sought : {r : ℕ → Tag → Bool} {low m : ℕ} {tg : Tag} {path : Path} (place : Place) (nodes : Nodes) → Placed low ok place → Sought r low m tg path → Sought r low m tg (settled_at place nodes path)
  settled_at-Sought here nodes p s = on_top-Sought _ (then-Grows (with_nodes nodes) caught_up (with_nodes-Grows nodes) caught_up-Grows) s
  settled_at-Sought (into k) nodes p s = at_number-Sought k (with_nodes nodes) (with_nodes-Grows nodes) (λ q t. put-Seated (into k) nodes p t) s
  settled_at-Sought (behind k) nodes p s = at_number-Sought k (with_waiting nodes) (with_waiting-Grows nodes) (λ q t. put-Seated (behind k) nodes p t) s
  settled_at-Sought into_head nodes p s = on_top-Sought _ (into_head-Grows nodes) s

  off-Sought : {r : ℕ → Tag → Bool} {low m : ℕ} {tg : Tag} {path : Path} (f : Frame) → Placed low ok f.place → Sought r low m tg path → Sought r low m tg (top_settled (f ∷ path))
  off-Sought {r} {low} {m} {tg} f p s = subst (Sought r low m tg) (sym (top_inside f (unsought s))) (settled_at-Sought f.place (node_of f) p s)

  pub popped-Sought : {low m : ℕ} {tg : Tag} (r q : ℕ → Tag → Bool) (count path : Path) → ((n : ℕ) (t : Tag) → r n t ≡ true → q n t ≡ false) → Sought r low m tg path →
      Sought r low m tg (settled_while (tested q) count path)
  popped-Sought {low} {m} {tg} r q count path w (found f p l o e s) =
      subst (Sought r low m tg) (sym (stays (tested q) count f p (or_from (not f.is_open) (q f.number f.tag) (ap not o) (w f.number f.tag e)))) (found f p l o e s)
  popped-Sought r q [] path w (past f p l s) = past f p l s
  popped-Sought {low} {m} {tg} r q (c ∷ count) path w (past f p l s) =
      elim (not f.is_open || q f.number f.tag) as (λ v. Sought r low m tg (elim v as (λ _. Path) [
        | true ↦ settled_while (tested q) count (top_settled (f ∷ p))
        | false ↦ f ∷ p
      ])) [
        | true ↦ popped-Sought r q count (top_settled (f ∷ p)) w (off-Sought f l.place s)
        | false ↦ past f p l s
      ]

  pub popped_to-Sought : {low m : ℕ} {tg : Tag} (r : ℕ → Tag → Bool) (path : Path) → Sought r low m tg path → Sought r low m tg (popped_to (tested r) path)
  popped_to-Sought r path s = popped-Sought r (λ n t. not (r n t)) path path (λ n t e. ap not e) s

  pub top-off : {r : ℕ → Tag → Bool} {low m : ℕ} {tg : Tag} (path : Path) → Sought r low m tg path → Seated low m tg (popped path)
  top-off path (found f p l o e s) = settled-Seated (top_settled (f ∷ p)) (off-Seated f l.place s)
  top-off path (past f p l s) = settled-Seated (top_settled (f ∷ p)) (off-Seated f l.place (unsought s))

  pub popped_through-Seated : {low m : ℕ} {tg : Tag} (r : ℕ → Tag → Bool) (path : Path) → Sought r low m tg path → Seated low m tg (popped_through (tested r) path)
  popped_through-Seated r path s = top-off (popped_to (tested r) path) (popped_to-Sought r path s)

  -- the current node, where it isn't the one that stays
  pub top-Sought : {low m : ℕ} {tg : Tag} {path : Path} (r : ℕ → Tag → Bool) → r m tg ≡ false → r (top path).number (top path).tag ≡ true → Seated low m tg path → Seated low m tg (popped path)
  top-Sought r n e (high t rest b i k) = absurd (true≢false (sym e ∙ (ap (λ x. r x t.tag) b.number ∙ (ap (r _) b.tag ∙ n))))
  top-Sought r n e (bodied g h d b p i k a w m) = absurd (true≢false (sym e ∙ (ap (λ x. r x g.tag) b.number ∙ (ap (r _) b.tag ∙ n))))
  top-Sought r n e (rooted h d k t m b) = absurd (true≢false (sym e ∙ (ap (λ x. r x h.tag) k.number ∙ (ap (r 1) t ∙ n))))
  top-Sought r n e (cell f p b l i s) = absurd (true≢false (sym e ∙ (ap (λ x. r x f.tag) b.number ∙ (ap (r _) b.tag ∙ n))))
  top-Sought r n e (inside f p l s) = settled-Seated (top_settled (f ∷ p)) (off-Seated f l.place s)

  -- a search stops before what stays
  pub record Stops (r : ℕ → Tag → Bool) (bounds : Tag → Bool) (m : ℕ) (tg : Tag) : Type 0 where
    pub bar : r m tg ≡ false
    pub root : (t : Tag) → IsHtml t → r 1 t ≡ false
    pub bounds_root : (t : Tag) → IsHtml t → bounds t ≡ true
    pub bounds_bar : IsBody tg ⊎ (bounds tg ≡ true)

  none_within : (r : ℕ → Tag → Bool) (bounds : Tag → Bool) (f : Frame) (fs : List Frame) → r f.number f.tag ≡ false → (bounds f.tag ≡ true) ⊎ (within (tested r) (has_tag bounds) fs ≡ false) →
      within (tested r) (has_tag bounds) (f ∷ fs) ≡ false
  none_within r bounds f fs e (inl y) = or_from (r f.number f.tag) _ e (ap (λ x. not x && within (tested r) (has_tag bounds) fs) y)
  none_within r bounds f fs e (inr n) = or_from (r f.number f.tag) _ e (and_right (not (bounds f.tag)) _ n)

  abbrev searched : (ℕ → Tag → Bool) → (Tag → Bool) → List Frame → Bool
  searched r bounds fs = within (tested r) (has_tag bounds) fs

  opened : (f : Frame) (path : Path) → f.is_open ≡ true → elements (f ∷ path) ≡ f ∷ elements path
  opened f path e = ap (λ (x : Bool). if x then f ∷ elements path else elements path) e

  root_searched : (r : ℕ → Tag → Bool) (bounds : Tag → Bool) (m : ℕ) (tg : Tag) (h : Frame) (path : Path) → Stops r bounds m tg → IsRoot h → searched r bounds (elements (h ∷ path)) ≡ false
  root_searched r bounds m tg h path y k =
      ap (searched r bounds) (opened h path k.open_still) ∙ none_within r bounds h (elements path) (ap (λ n. r n h.tag) k.number ∙ y.root h.tag k.tag) (inl (y.bounds_root h.tag k.tag))

  bar_searched : (r : ℕ → Tag → Bool) (bounds : Tag → Bool) (m : ℕ) (tg : Tag) (f : Frame) (path : Path) → Stops r bounds m tg → IsBar m tg f →
      (bounds tg ≡ true) ⊎ (searched r bounds (elements path) ≡ false) → searched r bounds (elements (f ∷ path)) ≡ false
  bar_searched r bounds m tg f path y k o =
      ap (searched r bounds) (opened f path k.open_still)
      ∙ none_within r bounds f (elements path) (ap (λ n. r n f.tag) k.number ∙ (ap (r m) k.tag ∙ y.bar)) (elim o [ inl b ↦ inl (ap bounds k.tag ∙ b) | inr n ↦ inr n ])

  bounded : {tg : Tag} (bounds : Tag → Bool) → (IsBody tg → ⊥) → IsBody tg ⊎ (bounds tg ≡ true) → bounds tg ≡ true
  bounded bounds n (inl y) = absurd (n y)
  bounded bounds n (inr y) = y

  pub search-Sought : {low m : ℕ} {tg : Tag} {path : Path} (r : ℕ → Tag → Bool) (bounds : Tag → Bool) → Stops r bounds m tg → searched r bounds (elements path) ≡ true → Seated low m tg path → Sought r low m tg path
  search-Sought {m} {tg} r bounds y e (high t rest b i k) =
      absurd (true≢false (sym e ∙ bar_searched r bounds m tg t rest y b (inl (bounded bounds (template_no_body tg i) y.bounds_bar))))
  search-Sought {m} {tg} r bounds y e (bodied g h d b p i k a w n) =
      absurd (true≢false (sym e ∙ bar_searched r bounds m tg g (h ∷ d ∷ []) y b (inr (root_searched r bounds m tg h (d ∷ []) y k))))
  search-Sought {tg} r bounds y e (rooted h d k t n b) = absurd (true≢false (sym e ∙ root_searched r bounds 1 tg h (d ∷ []) y k))
  search-Sought {m} {tg} r bounds y e (cell f p b l i s) =
      absurd (true≢false (sym e ∙ bar_searched r bounds m tg f p y b (inl (bounded bounds (cell_no_body tg i) y.bounds_bar))))
  search-Sought {low} {m} {tg} r bounds y e (inside f p l s) =
      elim (cases_Bool f.is_open) [
        | inr n ↦ past f p l (search-Sought r bounds y (ap (λ (x : Bool). searched r bounds (if x then f ∷ elements p else elements p)) (sym n) ∙ e) s)
        | inl o ↦ elim (cases_Bool (r f.number f.tag)) [
          | inl t ↦ found f p l o t s
          | inr n ↦ past f p l (search-Sought r bounds y
              (further_in (r f.number f.tag) (not (bounds f.tag)) (searched r bounds (elements p)) n (ap (searched r bounds) (sym (opened f p o)) ∙ e)) s)
        ]
      ]

  -- the appropriate place

  bar_place : {low m : ℕ} {tg : Tag} (f : Frame) → IsBar m tg f → Placed low ok (behind f.number)
  bar_place f b = (omega (arith, b.above, b.number), (λ _. omega (arith, b.above, b.number)), λ _. omega (arith, b.above, b.number))

  loose_place : {low : ℕ} (f : Frame) → Loose low f → Placed low ok (behind f.number)
  loose_place f l = (omega (arith, l.above), (λ _. omega (arith, l.above)), λ _. omega (arith, l.above))

  top_low : {low m : ℕ} {tg : Tag} {path : Path} → Seated low m tg path → Placed low ok (into (top path).number)
  top_low (high t rest b i r) = (omega (arith, b.above, b.number), λ _. omega (arith, b.above, b.number))
  top_low (bodied g h d b p i r a w e) = (omega (arith, b.above, b.number), λ _. omega (arith, b.above, b.number))
  top_low (rooted h d r e n b) = (omega (arith, r.number), λ two. absurd (omega (arith, two)))
  top_low (cell f p b l i s) = (omega (arith, l.above), λ _. omega (arith, l.above))
  top_low (inside f p l s) = (omega (arith, l.above), λ _. omega (arith, l.above))

  place_of-Placed : {low m : ℕ} {tg : Tag} {path : Path} (place : Place) → Placed low ok place → Seated low m tg path → Placed low ok (place_of place path)
  place_of-Placed here p s = top_low s
  place_of-Placed (into k) p s = p
  place_of-Placed (behind k) p s = p
  place_of-Placed into_head p s = p

  -- past a frame that is no table, and one that is none and no template
  past_frame : {low : ℕ} (f : Frame) (path : Path) → Placed low ok (behind f.number) → is_table f.tag ≡ false → Placed low ok (foster_place path) → Placed low ok (foster_place (f ∷ path))
  past_frame {low} f path p e h =
      cond_both (f.is_open && is_template f.tag) (behind f.number) _ (Placed low ok) (λ _. p)
      (λ _. cond_both (f.is_open && is_table f.tag) (place_of f.place path) (foster_place path) (Placed low ok) (λ y. absurd (true≢false (sym (and_parts f.is_open (is_table f.tag) y).1 ∙ e))) (λ _. h))

  no_table : (names : List ℕ) (t : Tag) → Each (λ name. is_one_of (codes "table") name ≡ false) (words names) → is_any names t ≡ true → is_table t ≡ false
  no_table names t k e =
      and_right (is_html t) (is_one_of (codes "table") t.name)
      (any_word (λ name. is_one_of (codes "table") name ≡ false) (words names) t.name k (and_parts (is_html t) (is_one_of names t.name) e).1)

  no_template : (names : List ℕ) (t : Tag) → Each (λ name. is_one_of (codes "template") name ≡ false) (words names) → is_any names t ≡ true → is_template t ≡ false
  no_template names t k e =
      and_right (is_html t) (is_one_of (codes "template") t.name)
      (any_word (λ name. is_one_of (codes "template") name ≡ false) (words names) t.name k (and_parts (is_html t) (is_one_of names t.name) e).1)

  root_past : {low : ℕ} (h d : Frame) → ok ≡ false → low ≤ 2 → IsRoot h → IsDocument d → Placed low ok (foster_place (h ∷ d ∷ []))
  root_past {low} h d n l r b =
      cond_both (h.is_open && is_template h.tag) (behind h.number) _ (Placed low ok)
      (λ y. absurd (true≢false (sym (and_parts h.is_open (is_template h.tag) y).1 ∙ no_template (codes "html") h.tag (refl, tt) r.tag)))
      (λ _. cond_both (h.is_open && is_table h.tag) (place_of h.place (d ∷ [])) (foster_place (d ∷ [])) (Placed low ok)
      (λ y. absurd (true≢false (sym (and_parts h.is_open (is_table h.tag) y).1 ∙ no_table (codes "html") h.tag (refl, tt) r.tag)))
      (λ _. cond_both (d.is_open && is_template d.tag) (behind d.number) _ (Placed low ok) (λ y. absurd (true≢false (sym (and_parts d.is_open (is_template d.tag) y).0 ∙ b.closed)))
      (λ _. cond_both (d.is_open && is_table d.tag) (place_of d.place []) (behind 1) (Placed low ok) (λ y. absurd (true≢false (sym (and_parts d.is_open (is_table d.tag) y).0 ∙ b.closed)))
      (λ _. (omega arith, (λ three. absurd (omega (arith, l, three))), λ y. absurd (true≢false (sym y ∙ n)))))))

  foster-Placed : {low m : ℕ} {tg : Tag} {path : Path} → ok ≡ false → Seated low m tg path → Placed low ok (foster_place path)
  foster-Placed n (high t rest b i r) =
      cond_both (t.is_open && is_template t.tag) (behind t.number) _ (Placed 3 ok) (λ _. bar_place t b)
      (λ e. absurd (true≢false (sym (and_from t.is_open (is_template t.tag) b.open_still (ap (λ x. is_template x) b.tag ∙ i)) ∙ e)))
  foster-Placed n (bodied g h d b p i r a w e) =
      past_frame g (h ∷ d ∷ []) (bar_place g b) (no_table (codes "body frameset") g.tag (refl, (refl, tt)) (ap (λ x. is_any (codes "body frameset") x) b.tag ∙ i)) (root_past h d n (omega arith) r e)
  foster-Placed n (rooted h d r e k b) = root_past h d n (omega arith) r b
  foster-Placed n (cell f p b l i s) = past_frame f p (loose_place f l) (no_table (codes "td th") f.tag (refl, (refl, tt)) (ap (λ x. is_any (codes "td th") x) b.tag ∙ i)) (foster-Placed n s)
  foster-Placed {low} n (inside f p l s) =
      cond_both (f.is_open && is_template f.tag) (behind f.number) _ (Placed low ok) (λ _. loose_place f l)
      (λ _. cond_both (f.is_open && is_table f.tag) (place_of f.place p) (foster_place p) (Placed low ok) (λ _. place_of-Placed f.place l.place s) (λ _. foster-Placed n s))

  pub place_in-Placed : {low m : ℕ} {tg : Tag} (is_fostering : Bool) (path : Path) → (is_fostering ≡ true → ok ≡ false) → Seated low m tg path → Placed low ok (place_in is_fostering path)
  place_in-Placed {low} is_fostering path n s =
      cond_both (is_fostering && is_foster_target (top path).tag) (foster_place path) here (Placed low ok)
      (λ e. foster-Placed (n (and_parts is_fostering (is_foster_target (top path).tag) e).0) s) (λ _. tt)

  -- what is opened

  pub new-Seated : {low m : ℕ} {tg : Tag} (k : ℕ) (tag : Tag) (place own : Place) (path : Path) → Loose low (new_frame k tag own) → Seated low m tg path → Seated low m tg (pushed_at place (new_frame k tag own) path)
  new-Seated k tag here own path l s = inside (new_frame k tag own) (on_top caught_up path) l (on_top-Seated caught_up caught_up-Grows s)
  new-Seated k tag (into n) own path l s = inside (new_frame k tag own) path l s
  new-Seated k tag (behind n) own path l s = inside (new_frame k tag own) path l s
  new-Seated k tag into_head own path l s = inside (new_frame k tag own) path l s

  -- a listed element, or a form, leaves the stack

  same : (j k : ℕ) → (j == k) ≡ true → j ≡ k
  same j k e = grind (arith, nat_tests)

  abbrev left : Frame → Frame
  left f = record f { is_open = false }

  bar_unlisted : {m : ℕ} {tg : Tag} (k : ℕ) (f : Frame) → IsBar m tg f → IsIn k S → chosen k left f ≡ f
  bar_unlisted k f b i =
      cond_both (f.number == k) (left f) f (λ x. x ≡ f) (λ e. absurd (b.bars (subst (λ x. IsIn x S) (sym (same f.number k e) ∙ b.number) i))) (λ _. refl)

  loose-left : {low : ℕ} (k : ℕ) (f : Frame) → IsIn k S → (IsIn k L → ⊥) → Loose low f → Loose low (chosen k left f)
  loose-left {low} k f n x l =
      cond_both (f.number == k) (left f) f (Loose low)
      (λ e. record {
        above = l.above;
        below = l.below;
        place = l.place;
        tag = l.tag;
        bars = l.bars;
        still = λ i. absurd (x (subst (λ y. IsIn y L) (same f.number k e) i));
        shut = λ _. (l.bars (subst (λ y. IsIn y S) (sym (same f.number k e)) n)).1;
      }) (λ _. l)

  rest-left : {place : Place} {rest : Path} (k : ℕ) → 2 < k → Rest place rest → Rest place (at_number k left rest)
  rest-left k l (under_head f h d q r i w e) =
      subst (λ x. Rest here (chosen k left f ∷ chosen k left h ∷ x ∷ [])) (sym (unchosen k 0 left d e.number (omega (arith, l))))
      (subst (λ x. Rest here (chosen k left f ∷ x ∷ d ∷ [])) (sym (unchosen k 1 left h r.number (omega (arith, l))))
      (subst (λ x. Rest here (x ∷ h ∷ d ∷ [])) (sym (unchosen k 2 left f q.number l)) (under_head f h d q r i w e)))
  rest-left k l (behind_head h d r i w e) =
      subst (λ x. Rest into_head (chosen k left h ∷ x ∷ [])) (sym (unchosen k 0 left d e.number (omega (arith, l))))
      (subst (λ x. Rest into_head (x ∷ d ∷ [])) (sym (unchosen k 1 left h r.number (omega (arith, l)))) (behind_head h d r i w e))

  pub left-Seated : {low m : ℕ} {tg : Tag} {path : Path} (k : ℕ) → 2 < k → IsIn k S → (IsIn k L → ⊥) → Seated low m tg path → Seated low m tg (at_number k left path)
  left-Seated {m} {tg} k l n z (high t rest b i r) = subst (λ x. Seated 3 m tg (x ∷ at_number k left rest)) (sym (bar_unlisted k t b n)) (high t (at_number k left rest) b i (rest-left k l r))
  left-Seated {m} {tg} k l n z (bodied g h d b p i r a w e) =
      subst (λ x. Seated 2 m tg (chosen k left g ∷ chosen k left h ∷ x ∷ [])) (sym (unchosen k 0 left d e.number (omega (arith, l))))
      (subst (λ x. Seated 2 m tg (chosen k left g ∷ x ∷ d ∷ [])) (sym (unchosen k 1 left h r.number (omega (arith, l))))
      (subst (λ x. Seated 2 m tg (x ∷ h ∷ d ∷ [])) (sym (bar_unlisted k g b n)) (bodied g h d b p i r a w e)))
  left-Seated {tg} k l n z (rooted h d r e x b) =
      subst (λ x. Seated 1 1 tg (chosen k left h ∷ x ∷ [])) (sym (unchosen k 0 left d b.number (omega (arith, l))))
      (subst (λ x. Seated 1 1 tg (x ∷ d ∷ [])) (sym (unchosen k 1 left h r.number (omega (arith, l)))) (rooted h d r e x b))
  left-Seated {low} {m} {tg} k l n z (cell f p b q i s) = subst (λ x. Seated low m tg (x ∷ at_number k left p)) (sym (bar_unlisted k f b n)) (cell f (at_number k left p) b q i (left-Seated k l n z s))
  left-Seated k l n z (inside f p q s) = inside (chosen k left f) (at_number k left p) (loose-left k f n z q) (left-Seated k l n z s)

  -- attributes are added

  abbrev pub Alike : Tag → Tag → Type 0
  Alike a b = (b.space ≡ a.space) × (b.name ≡ a.name)

  pub alike_any : (names : List ℕ) (a b : Tag) → Alike a b → is_any names b ≡ is_any names a
  alike_any names a b e = ap (λ s. by_space s true false false && is_one_of names b.name) e.0 ∙ ap (λ n. is_html a && is_one_of names n) e.1

  abbrev added : List Attribute → Frame → Frame
  added more f = record f { tag = with_more more f.tag }

  more_alike : (k : ℕ) (more : List Attribute) (f : Frame) → Alike f.tag (chosen k (added more) f).tag
  more_alike k more f = cond_both (f.number == k) (added more f) f (λ x. Alike f.tag x.tag) (λ _. (refl, refl)) (λ _. (refl, refl))

  same_number : (k : ℕ) (more : List Attribute) (f : Frame) → (chosen k (added more) f).number ≡ f.number
  same_number k more f = cond_both (f.number == k) (added more f) f (λ x. x.number ≡ f.number) (λ _. refl) (λ _. refl)

  same_open : (k : ℕ) (more : List Attribute) (f : Frame) → (chosen k (added more) f).is_open ≡ f.is_open
  same_open k more f = cond_both (f.number == k) (added more f) f (λ x. x.is_open ≡ f.is_open) (λ _. refl) (λ _. refl)

  same_place : (k : ℕ) (more : List Attribute) (f : Frame) → (chosen k (added more) f).place ≡ f.place
  same_place k more f = cond_both (f.number == k) (added more f) f (λ x. x.place ≡ f.place) (λ _. refl) (λ _. refl)

  pub same_children : (P : Nodes → Type 0) (k : ℕ) (more : List Attribute) (f : Frame) → P f.children → P (chosen k (added more) f).children
  same_children P k more f h = cond_both (f.number == k) (added more f) f (λ x. P x.children) (λ _. h) (λ _. h)

  pub same_waiting : (P : Nodes → Type 0) (k : ℕ) (more : List Attribute) (f : Frame) → P f.waiting → P (chosen k (added more) f).waiting
  same_waiting P k more f h = cond_both (f.number == k) (added more f) f (λ x. P x.waiting) (λ _. h) (λ _. h)

  pub root-more : (k : ℕ) (more : List Attribute) (h : Frame) → IsRoot h → IsRoot (chosen k (added more) h)
  root-more k more h r = record {
    number = same_number k more h ∙ r.number;
    open_still = same_open k more h ∙ r.open_still;
    tag = alike_any (codes "html") h.tag (chosen k (added more) h).tag (more_alike k more h) ∙ r.tag;
    place = same_place k more h ∙ r.place;
  }

  head-more : (k : ℕ) (more : List Attribute) (h : Frame) → IsHeadFrame h → IsHeadFrame (chosen k (added more) h)
  head-more k more h r = record {
    number = same_number k more h ∙ r.number;
    open_still = same_open k more h ∙ r.open_still;
    tag = alike_any (codes "head") h.tag (chosen k (added more) h).tag (more_alike k more h) ∙ r.tag;
    place = same_place k more h ∙ r.place;
  }

  pub document-more : (k : ℕ) (more : List Attribute) (d : Frame) → IsDocument d → IsDocument (chosen k (added more) d)
  document-more k more d r = record {
    number = same_number k more d ∙ r.number;
    closed = same_open k more d ∙ r.closed;
    plain = same_children ArePlain k more d r.plain;
    notes = same_waiting AreComments k more d r.notes;
  }

  bar-more : {m : ℕ} {tg : Tag} (k : ℕ) (more : List Attribute) (f : Frame) → IsBar m tg f → IsBar m (chosen k (added more) f).tag (chosen k (added more) f)
  bar-more k more f b = record {
    number = same_number k more f ∙ b.number;
    above = b.above;
    below = b.below;
    open_still = same_open k more f ∙ b.open_still;
    tag = refl;
    bars = b.bars;
  }

  loose-more : {low : ℕ} (k : ℕ) (more : List Attribute) (f : Frame) → Loose low f → Loose low (chosen k (added more) f)
  loose-more {low} k more f l =
      let a = more_alike k more f in
      record {
        above = subst (λ x. 2 < x) (sym (same_number k more f)) l.above;
        below = subst (λ x. x < N) (sym (same_number k more f)) l.below;
        place = subst (Placed low ok) (sym (same_place k more f)) l.place;
        tag = record {
          no_root = alike_any (codes "html head") f.tag (chosen k (added more) f).tag a ∙ l.tag.no_root;
          no_body = λ x. alike_any (codes "body frameset") f.tag (chosen k (added more) f).tag a ∙ l.tag.no_body x;
          no_template = λ x. alike_any (codes "template") f.tag (chosen k (added more) f).tag a ∙ l.tag.no_template x;
        };
        bars = λ i.
            let y = l.bars (subst (λ x. IsIn x S) (same_number k more f) i) in
            (alike_any bar_names f.tag (chosen k (added more) f).tag a ∙ y.0, ap (λ s. by_space s true false false) a.0 ∙ y.1);
        still = λ i. same_open k more f ∙ l.still (subst (λ x. IsIn x L) (same_number k more f) i);
        shut = λ e. ap (λ s. by_space s true false false) a.0 ∙ l.shut (sym (same_open k more f) ∙ e);
      }

  pub rest-more : {place : Place} {rest : Path} (k : ℕ) (more : List Attribute) → Rest place rest → Rest place (at_number k (added more) rest)
  rest-more k more (under_head f h d q r i w e) =
      under_head (chosen k (added more) f) (chosen k (added more) h) (chosen k (added more) d) (head-more k more f q) (root-more k more h r)
      (same_children AreComments k more h i) (same_waiting AreComments k more h w) (document-more k more d e)
  rest-more k more (behind_head h d r i w e) =
      behind_head (chosen k (added more) h) (chosen k (added more) d) (root-more k more h r) (same_children HeadAlone k more h i) (same_waiting AreComments k more h w) (document-more k more d e)

  abbrev pub SeatedLike : ℕ → ℕ → Tag → Path → Type 0
  SeatedLike low m tg path = (own : Tag) × Alike tg own × Seated low m own path

  bar_alike : {m : ℕ} {tg : Tag} (k : ℕ) (more : List Attribute) (f : Frame) → IsBar m tg f → Alike tg (chosen k (added more) f).tag
  bar_alike {tg} k more f b = subst (λ x. Alike x (chosen k (added more) f).tag) b.tag (more_alike k more f)

  pub more-Seated : {low m : ℕ} {tg : Tag} {path : Path} (k : ℕ) (more : List Attribute) → Seated low m tg path → SeatedLike low m tg (at_number k (added more) path)
  more-Seated {tg} k more (high t rest b i r) =
      let f : Frame = chosen k (added more) t in
      let a : Alike tg f.tag = bar_alike k more t b in (
        f.tag,
        a,
        high f (at_number k (added more) rest) (bar-more k more t b) (alike_any (codes "template") tg f.tag a ∙ i)
            (subst (λ x. Rest x (at_number k (added more) rest)) (sym (same_place k more t)) (rest-more k more r)),
      )
  more-Seated {tg} k more (bodied g h d b p i r n w e) =
      let f : Frame = chosen k (added more) g in
      let a : Alike tg f.tag = bar_alike k more g b in (
        f.tag,
        a,
        bodied f (chosen k (added more) h) (chosen k (added more) d) (bar-more k more g b) (same_place k more g ∙ p) (alike_any (codes "body frameset") tg f.tag a ∙ i)
            (root-more k more h r) (same_children HeadAlone k more h n) (λ o. same_waiting AreComments k more h (w o)) (document-more k more d e),
      )
  more-Seated {tg} k more (rooted h d r e n b) =
      let f : Frame = chosen k (added more) h in
      (f.tag, subst (λ x. Alike x f.tag) e (more_alike k more h), rooted f (chosen k (added more) d) (root-more k more h r) refl (same_children BodyNext k more h n) (document-more k more d b))
  more-Seated {tg} k more (cell t p b l i s) =
      let f : Frame = chosen k (added more) t in
      let a : Alike tg f.tag = bar_alike k more t b in
      (f.tag, a, cell f (at_number k (added more) p) (bar-more k more t b) (loose-more k more t l) (alike_any (codes "td th") tg f.tag a ∙ i) (more-Seated k more s).2)
  more-Seated {tg} k more (inside f p l s) =
      let t = more-Seated k more s in
      (t.0, t.1, inside (chosen k (added more) f) (at_number k (added more) p) (loose-more k more f l) t.2)

  -- the tag of what stays

  pub one_of_these : (names more : List ℕ) (t : Tag) → Each (λ name. is_one_of more name ≡ true) (words names) → is_any names t ≡ true → is_any more t ≡ true
  one_of_these names more t k e =
      let y = and_parts (is_html t) (is_one_of names t.name) e in
      and_from (is_html t) (is_one_of more t.name) y.0 (any_word (λ name. is_one_of more name ≡ true) (words names) t.name k y.1)

  pub html_is_bar : (t : Tag) → IsHtml t → is_any bar_names t ≡ true
  html_is_bar t i = one_of_these (codes "html") bar_names t (refl, tt) i

  pub bar_is : {low m : ℕ} {tg : Tag} {path : Path} → Seated low m tg path → is_any bar_names tg ≡ true
  bar_is {tg} (high t rest b i r) = one_of_these (codes "template") bar_names tg (refl, tt) i
  bar_is {tg} (bodied g h d b p i r a w e) = one_of_these (codes "body frameset") bar_names tg (refl, (refl, tt)) i
  bar_is {tg} (rooted h d r e n b) = html_is_bar tg (subst IsHtml e r.tag)
  bar_is {tg} (cell f p b l i s) = one_of_these (codes "td th") bar_names tg (refl, (refl, tt)) i
  bar_is (inside f p l s) = bar_is s

  -- the cell is forgotten
  abbrev pub Bare : ℕ → Path → Type 0
  Bare low path = (m : ℕ) × (tg : Tag) × (is_any (codes "html template body frameset") tg ≡ true) × Seated low m tg path

  pub bare : {low m : ℕ} {tg : Tag} {path : Path} → Seated low m tg path → Bare low path
  bare {m} {tg} (high t rest b i r) = (m, tg, one_of_these (codes "template") (codes "html template body frameset") tg (refl, tt) i, high t rest b i r)
  bare {m} {tg} (bodied g h d b p i r a w e) = (m, tg, one_of_these (codes "body frameset") (codes "html template body frameset") tg (refl, (refl, tt)) i, bodied g h d b p i r a w e)
  bare {tg} (rooted h d r e n b) = (1, tg, one_of_these (codes "html") (codes "html template body frameset") tg (refl, tt) (subst IsHtml e r.tag), rooted h d r e n b)
  bare (cell f p b l i s) = let t = bare s in (t.0, t.1, t.2, inside f p l t.3)
  bare (inside f p l s) = let t = bare s in (t.0, t.1, t.2, inside f p l t.3)

  -- a frame further in is another one than what stays
  pub bar_off : {low m : ℕ} {tg : Tag} {path : Path} (k : ℕ) → 2 < k → IsIn k S → Seated low m tg path → (m == k) ≡ false
  bar_off k l n (high t rest b i r) = false_from_ne_true _ (λ e. b.bars (subst (λ x. IsIn x S) (sym (same _ k e)) n))
  bar_off k l n (bodied g h d b p i r a w e) = false_from_ne_true _ (λ e. b.bars (subst (λ x. IsIn x S) (sym (same _ k e)) n))
  bar_off k l n (rooted h d r e x b) = other_number 1 k 1 refl (omega (arith, l))
  bar_off k l n (cell f p b q i s) = false_from_ne_true _ (λ e. b.bars (subst (λ x. IsIn x S) (sym (same _ k e)) n))
  bar_off k l n (inside f p q s) = bar_off k l n s

-- what is kept where more numbers are taken, and where fewer are listed

pub narrower_place : (low : ℕ) (ok less : Bool) (place : Place) → (less ≡ true → ok ≡ true) → Placed low ok place → Placed low less place
narrower_place low ok less here w p = tt
narrower_place low ok less (into k) w p = p
narrower_place low ok less (behind k) w p = (p.0, p.1, λ e. p.2 (w e))
narrower_place low ok less into_head w p = p

pub narrower_tag : (low : ℕ) (ok less : Bool) (t : Tag) → (less ≡ true → ok ≡ true) → Tagged low ok t → Tagged low less t
narrower_tag low ok less t w h = record { no_root = h.no_root; no_body = h.no_body; no_template = λ e. h.no_template (w e) }

pub record Wider (S L : List ℕ) (N : ℕ) (ok : Bool) (T M : List ℕ) (K : ℕ) (less : Bool) : Type 0 where
  pub numbers : (k : ℕ) → k < N → IsIn k T → IsIn k S
  pub listed : (k : ℕ) → k < N → IsIn k M → IsIn k L
  pub more : N ≤ K
  pub narrower : less ≡ true → ok ≡ true

module _ (S L : List ℕ) (N : ℕ) (ok : Bool) (T M : List ℕ) (K : ℕ) (less : Bool) (w : Wider S L N ok T M K less) where
  wider-bar : (m : ℕ) (tg : Tag) (f : Frame) → IsBar S L N ok m tg f → IsBar T M K less m tg f
  wider-bar m tg f b = record {
    number = b.number;
    above = b.above;
    below = omega (arith, b.below, w.more);
    open_still = b.open_still;
    tag = b.tag;
    bars = λ i. b.bars (w.numbers m b.below i);
  }

  pub wider-loose : (low : ℕ) (f : Frame) → Loose S L N ok low f → Loose T M K less low f
  wider-loose low f l = record {
    above = l.above;
    below = omega (arith, l.below, w.more);
    place = narrower_place low ok less f.place w.narrower l.place;
    tag = narrower_tag low ok less f.tag w.narrower l.tag;
    bars = λ i. l.bars (w.numbers f.number l.below i);
    still = λ i. l.still (w.listed f.number l.below i);
    shut = l.shut;
  }

  pub wider-Seated : {low m : ℕ} {tg : Tag} {path : Path} → Seated S L N ok low m tg path → Seated T M K less low m tg path
  wider-Seated {m} {tg} (high t rest b i r) = high t rest (wider-bar m tg t b) i r
  wider-Seated {m} {tg} (bodied g h d b p i r a n e) = bodied g h d (wider-bar m tg g b) p i r a (λ x. n (w.narrower x)) e
  wider-Seated (rooted h d r e n b) = rooted h d r e n b
  wider-Seated {low} {m} {tg} (cell f p b l i s) = cell f p (wider-bar m tg f b) (wider-loose low f l) i (wider-Seated s)
  wider-Seated {low} (inside f p l s) = inside f p (wider-loose low f l) (wider-Seated s)
