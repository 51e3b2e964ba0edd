-- What stays at the top stays at each open place.
use Rattle.std.proofs.Common.{append_assoc, Some, Bool, List, None, [], ap, ap₂, append-nil, codes, false, if◌then◌else◌, inl, map, not, refl, subst, sym, true, true≢false, ℕ, ◌&&◌, ◌++◌, ◌∙◌, ◌∷◌, ◌≡◌, ◌||◌}
use Rattle.std.specs.List.{list_all}
use Rattle.std.specs.Str.{bytes_eq}
use Rattle.std.proofs.lemmas.Bool.{and_from, and_parts, false_from_ne_true, not-true}
use Rattle.std.proofs.lemmas.Slice.Eq.{bytes_eq-Decides}
use Rattle.tl_dom_spec.specs.HtmlForest as D
use Rattle.tl_dom_spec.specs.HtmlForest.{has_contents}
use Rattle.tl_dom_spec.specs.Lawful.{void_names}
use Rattle.tl_dom_spec.specs.HtmlTree.{Context}
use Rattle.tl_dom_spec.specs.Marks.{Marked, unmarked}
use Rattle.tl_dom_spec.specs.Partial.{is_flow_context, unnumbered, whole, without_numbers}
use Rattle.tl_dom_spec.specs.Tags.{Attribute, AttributeSpace, Tag, html_tag, is_html, no_space, plain_attribute}
use Rattle.tl_html_print.proofs.BuiltAgain.{AreLow, EachIsLow, built_joined, printed_alike, read_alike, tokens_same, void_same}
use Rattle.tl_html_print.proofs.Reread.{print_read}
use Rattle.tl_html_print.specs.Again.{built_in}
use Rattle.tl_html_print.specs.ReadAgain.{CanBeReadAgain, attribute_read, lowered, tokens_of_trees}
use Rattle.tl_html_print.specs.Serialized.{end_tag, escaped, is_literal, is_literal_in, parent_below, serialized, serialized_comment, serialized_doctype, serialized_name, start_tag, unless_void}
use Rattle.tl_html_spec.specs.Balanced.{is_button_scope, is_one_of, is_scope}
use Rattle.tl_html_spec.specs.HtmlTokenizer.{HtmlAttribute, data_state}
use Rattle.tl_html_spec.specs.Reader.{at, tokens_of}
use Rattle.tl_spec.specs.Lex.ByteClass.{is_void}
use Rattle.tl_spec.specs.Tree.Forest.{comment, none, tag, text}
use Rattle.tl_tree_safe.proofs.Own.{pair_of}
use Rattle.tl_tree_safe.proofs.Partial.{joined-own, joined-same, line-same, partial, partial_tag, settled-stay, whole-same}
use Rattle.tl_tree_safe.proofs.Readable.{below_read, can_be, low, markup}
use Rattle.tl_tree_safe.proofs.Safe as safe
use Rattle.tl_tree_safe.specs.Fitted.{Names, at_top, is_read}
use Rattle.tl_tree_safe.specs.Joined.{text_before, texts_joined}
use Rattle.tl_tree_safe.specs.Kept.{joined}
use Rattle.tl_tree_safe.specs.KeptFitted.{kept_fitted}
use Rattle.tl_tree_safe.specs.Lists.{ListedWords, lists_words}
use Rattle.tl_tree_safe.specs.OpenPlaces.{AreAround, AreReadBack, Around, IsReadBack, StandsIn, back, ends_none, is_anchor, is_anchor_group, is_button, is_button_group, is_nobr, is_nobr_group, is_open_place, front, names_in, put}
use Rattle.tl_tree_safe.specs.OwnKeys.{HaveOwnKeys}
use Rattle.tl_tree_safe.specs.Settled as Settled
use Rattle.tl_tree_safe.specs.Settled.{is_settled_inside, settled}
use Rattle.tl_tree_spec.proofs.Places.{names_placed, stays_placed}
use Rattle.tl_tree_spec.specs.Builder.{Mode, Reading, is_flow, mode_by, mode_of, names, within}
use Rattle.tl_tree_spec.specs.Groups as G
use Rattle.tl_tree_spec.specs.Groups.{Group, group, is_description, is_heading, is_implied, is_item, is_paragraph}
use Rattle.tl_tree_spec.specs.HtmlForest.{HtmlForest, HtmlTag, html_tokens_of, normal_form}
use Rattle.tl_tree_spec.specs.HtmlTreeBuilder.{is_rtc}
use Rattle.tl_tree_spec.specs.Places.{Puts, placed}
use Rattle.tl_tree_spec.specs.Stays.{begins_line, directly_in, in_p, in_ruby, is_alone, is_mark, is_none, is_preformatted, may_be_read, may_stand, stands, stands_in_flow, stay, surely_ends}

-- Searches

-- what nothing of `ns` passes, is looked for in `xs` alone
past : (test stops : List ℕ → Bool) (xs ns : Names) → within test stops ns ≡ false → within test stops (xs ++ ns) ≡ within test stops xs
past test stops [] ns h = h
past test stops (x ∷ xs) ns h = ap (λ v. test x || (not (stops x) && v)) (past test stops xs ns h)

-- so it is alike over what is at the top
alike : (test stops : List ℕ → Bool) (xs ns : Names) → within test stops ns ≡ false → within test stops at_top ≡ false → within test stops (xs ++ ns) ≡ within test stops (xs ++ at_top)
alike test stops xs ns h k = past test stops xs ns h ∙ sym (past test stops xs at_top k)

or_left : (a b : Bool) → a ≡ true → (a || b) ≡ true
or_left true b h = refl
or_left false b h = absurd (true≢false (sym h))

or_right : (a b : Bool) → b ≡ true → (a || b) ≡ true
or_right true b h = refl
or_right false b h = h

or_cases : (a b : Bool) (T : Type 0) → (a || b) ≡ true → (a ≡ true → T) → (b ≡ true → T) → T
or_cases true b T h f g = f refl
or_cases false b T h f g = g h

-- what passes a narrower test passes a wider one
wider : (test other stops : List ℕ → Bool) → ((n : List ℕ) → test n ≡ true → other n ≡ true) → (ns : Names) → within other stops ns ≡ false → within test stops ns ≡ false
wider test other stops f ns h = false_from_ne_true (within test stops ns) (λ y. true≢false (sym (up ns y) ∙ h))
  where
    up : (ns : Names) → within test stops ns ≡ true → within other stops ns ≡ true
    up [] y = y
    up (n ∷ ns) y =
        or_cases (test n) (not (stops n) && within test stops ns) (within other stops (n ∷ ns) ≡ true) y
        (λ z. or_left (other n) _ (f n z))
        (λ z. let q = and_parts (not (stops n)) (within test stops ns) z in or_right (other n) _ (and_from (not (stops n)) (within other stops ns) q.0 (up ns q.1)))

-- a name is that of one of its group
same_group : (test : Group → Bool) (n : List ℕ) → test (group n) ≡ true → (m : List ℕ) → bytes_eq n m ≡ true → test (group m) ≡ true
same_group test n h m e = subst (λ x. test (group x) ≡ true) ((bytes_eq-Decides n m).0 e) h

-- Modes

flow_by : (g : Group) (m k : Mode) → is_flow m ≡ is_flow k → is_flow (mode_by g m) ≡ is_flow (mode_by g k)
flow_by G.a_table m k h = refl
flow_by G.a_caption m k h = refl
flow_by G.a_column_group m k h = refl
flow_by G.a_table_body m k h = refl
flow_by G.a_row m k h = refl
flow_by G.a_cell m k h = refl
flow_by _ m k h = h

flow_alike : (xs ns : Names) → is_flow (mode_of ns) ≡ true → is_flow (mode_of (xs ++ ns)) ≡ is_flow (mode_of (xs ++ at_top))
flow_alike [] ns h = h
flow_alike (x ∷ xs) ns h = flow_by (group x) (mode_of (xs ++ ns)) (mode_of (xs ++ at_top)) (flow_alike xs ns h)

-- An open place

record IsOpen (ns : Names) : Type 0 where
  flow : is_flow (mode_of ns) ≡ true
  paragraph : in_p ns ≡ false
  item : within is_item surely_ends ns ≡ false
  description : within is_description surely_ends ns ≡ false
  anchor : within is_anchor is_mark ns ≡ false
  button : within is_button is_scope ns ≡ false
  nobr : within is_nobr is_scope ns ≡ false
  ruby : in_ruby ns ≡ false
  heading : directly_in is_heading ns ≡ false

heading_none : (ns : Names) → directly_in (λ n. is_heading n || is_preformatted (group n)) ns ≡ false → directly_in is_heading ns ≡ false
heading_none [] h = refl
heading_none (n ∷ ns) h = false_from_ne_true (is_heading n) (λ y. true≢false (sym (or_left (is_heading n) (is_preformatted (group n)) y) ∙ h))

open_is : (ns : Names) → is_open_place ns ≡ true → IsOpen ns
open_is ns h =
    let a = and_parts (is_flow (mode_of ns) && ends_none ns) _ h in
    let b = and_parts (is_flow (mode_of ns)) (ends_none ns) a.0 in
    let c = and_parts ((not (in_p ns) && not (within is_item surely_ends ns)) && (not (within is_description surely_ends ns) && not (within is_anchor is_mark ns))) _ b.1 in
    let d = and_parts (not (in_p ns) && not (within is_item surely_ends ns)) _ c.0 in
    let e = and_parts (not (in_p ns)) _ d.0 in
    let f = and_parts (not (within is_description surely_ends ns)) _ d.1 in
    let g = and_parts (not (within is_button is_scope ns)) _ c.1 in
    let k = and_parts (not (in_ruby ns)) _ a.1 in
    record {
      flow = b.0;
      paragraph = not-true _ e.0;
      item = not-true _ e.1;
      description = not-true _ f.0;
      anchor = not-true _ f.1;
      button = not-true _ g.0;
      nobr = not-true _ g.1;
      ruby = not-true _ k.0;
      heading = heading_none ns (not-true _ k.1);
    }

module _ (ns : Names) (o : IsOpen ns) where
  p_alike : (xs : Names) → in_p (xs ++ ns) ≡ in_p (xs ++ at_top)
  p_alike xs = alike is_paragraph is_button_scope xs ns o.paragraph refl

  without_p : (xs : Names) → not (in_p (xs ++ at_top)) ≡ true → not (in_p (xs ++ ns)) ≡ true
  without_p xs h = ap not (p_alike xs) ∙ h

  -- directly in an element: where there is one of `xs`, it is that
  part : (test : List ℕ → Bool) (xs : Names) → directly_in test at_top ≡ false → directly_in test (xs ++ at_top) ≡ true → directly_in test (xs ++ ns) ≡ true
  part test [] k h = absurd (true≢false (sym h ∙ k))
  part test (x ∷ xs) k h = h

  no_heading : (xs : Names) → not (directly_in is_heading (xs ++ at_top)) ≡ true → not (directly_in is_heading (xs ++ ns)) ≡ true
  no_heading [] h = ap not o.heading
  no_heading (x ∷ xs) h = h

  in_no_ruby : (test : List ℕ → Bool) (xs : Names) → (not (in_ruby (xs ++ at_top)) || not (directly_in test (xs ++ at_top))) ≡ true → (not (in_ruby (xs ++ ns)) || not (directly_in test (xs ++ ns))) ≡ true
  in_no_ruby test [] h = ap (λ v. not v || not (directly_in test ns)) o.ruby
  in_no_ruby test (x ∷ xs) h =
      ap (λ v. not v || not (test x)) (alike (is_one_of (codes "ruby")) is_scope (x ∷ xs) ns o.ruby refl) ∙ h

  -- none of this name is open, as none of its group is
  none_open : (test : Group → Bool) (stops : List ℕ → Bool) (xs : Names) (n : List ℕ) → test (group n) ≡ true → within (λ m. test (group m)) stops ns ≡ false → within (λ m. test (group m)) stops at_top ≡ false →
      not (within (bytes_eq n) stops (xs ++ at_top)) ≡ true → not (within (bytes_eq n) stops (xs ++ ns)) ≡ true
  none_open test stops xs n g h k e =
      ap not (alike (bytes_eq n) stops xs ns
      (wider (bytes_eq n) (λ m. test (group m)) stops (same_group test n g) ns h)
      (wider (bytes_eq n) (λ m. test (group m)) stops (same_group test n g) at_top k)) ∙ e

  flow_stands : (g : Group) (xs : Names) (n : List ℕ) → group n ≡ g → stands_in_flow g (xs ++ at_top) n ≡ true → stands_in_flow g (xs ++ ns) n ≡ true
  flow_stands G.a_paragraph xs n e h = without_p xs h
  flow_stands G.a_block xs n e h = without_p xs h
  flow_stands G.a_heading xs n e h =
      let q = and_parts (not (in_p (xs ++ at_top))) (not (directly_in is_heading (xs ++ at_top))) h in
      and_from (not (in_p (xs ++ ns))) (not (directly_in is_heading (xs ++ ns))) (without_p xs q.0) (no_heading xs q.1)
  flow_stands G.a_preformatted xs n e h = without_p xs h
  flow_stands G.an_item xs n e h =
      let q = and_parts (not (within is_item surely_ends (xs ++ at_top))) (not (in_p (xs ++ at_top))) h in
      and_from (not (within is_item surely_ends (xs ++ ns))) (not (in_p (xs ++ ns))) (ap not (alike is_item surely_ends xs ns o.item refl) ∙ q.0) (without_p xs q.1)
  flow_stands G.a_description xs n e h =
      let q = and_parts (not (within is_description surely_ends (xs ++ at_top))) (not (in_p (xs ++ at_top))) h in
      and_from (not (within is_description surely_ends (xs ++ ns))) (not (in_p (xs ++ ns))) (ap not (alike is_description surely_ends xs ns o.description refl) ∙ q.0) (without_p xs q.1)
  flow_stands G.a_button xs n e h = none_open is_button_group is_scope xs n (ap is_button_group e) o.button refl h
  flow_stands G.an_anchor xs n e h = none_open is_anchor_group is_mark xs n (ap is_anchor_group e) o.anchor refl h
  flow_stands G.a_format xs n e h = refl
  flow_stands G.a_nobr xs n e h = none_open is_nobr_group is_scope xs n (ap is_nobr_group e) o.nobr refl h
  flow_stands G.a_break xs n e h = refl
  flow_stands G.a_void xs n e h = refl
  flow_stands G.a_detail xs n e h = refl
  flow_stands G.a_rule xs n e h = without_p xs h
  flow_stands G.a_ruby_base xs n e h = in_no_ruby is_implied xs h
  flow_stands G.a_ruby_text xs n e h = in_no_ruby (λ m. is_implied m && not (is_rtc m)) xs h
  flow_stands G.any_other xs n e h = refl
  flow_stands G.a_table xs n e h = without_p xs h
  flow_stands _ xs n e h = absurd (true≢false (sym h))

  stands_there : (g : Group) (xs : Names) (n : List ℕ) → group n ≡ g → stands g (xs ++ at_top) n ≡ true → stands g (xs ++ ns) n ≡ true
  stands_there G.a_caption xs n e h = part G.is_table xs refl h
  stands_there G.a_column_group xs n e h = part G.is_table xs refl h
  stands_there G.a_column xs n e h = part G.is_column_group xs refl h
  stands_there G.a_table_body xs n e h = part G.is_table xs refl h
  stands_there G.a_row xs n e h = part G.is_table_body xs refl h
  stands_there G.a_cell xs n e h = part G.is_row xs refl h
  stands_there g xs n e h =
      let q = and_parts (is_flow (mode_of (xs ++ at_top))) (stands_in_flow g (xs ++ at_top) n) h in
      and_from (is_flow (mode_of (xs ++ ns))) (stands_in_flow g (xs ++ ns) n) (flow_alike xs ns o.flow ∙ q.0) (flow_stands g xs n e q.1)

  abbrev Below : Bool → HtmlTag → HtmlForest → Bool → Bool
  Below void own children stays =
      if void then is_alone (group own.name) && is_none children
      else not (is_alone (group own.name)) && not (is_preformatted (group own.name) && begins_line children) && stays

  below_there : (void : Bool) (own : HtmlTag) (children : HtmlForest) (s t : Bool) → (s ≡ true → t ≡ true) → Below void own children s ≡ true → Below void own children t ≡ true
  below_there true own children s t f h = h
  below_there false own children s t f h =
      let q = and_parts (not (is_alone (group own.name)) && not (is_preformatted (group own.name) && begins_line children)) s h in
      and_from (not (is_alone (group own.name)) && not (is_preformatted (group own.name) && begins_line children)) t q.0 (f q.1)

  stays_there : (xs : Names) (f : HtmlForest) → stay (xs ++ at_top) f ≡ true → stay (xs ++ ns) f ≡ true
  stays_there xs none h = refl
  stays_there xs (text bytes more) h =
      let q = and_parts (list_all (may_be_read (is_flow (mode_of (xs ++ at_top)))) bytes) (stay (xs ++ at_top) more) h in
      and_from (list_all (may_be_read (is_flow (mode_of (xs ++ ns)))) bytes) (stay (xs ++ ns) more)
      (ap (λ v. list_all (may_be_read v) bytes) (flow_alike xs ns o.flow) ∙ q.0) (stays_there xs more q.1)
  stays_there xs (comment bytes more) h = absurd (true≢false (sym h))
  stays_there xs (tag own children more) h =
      let q = and_parts (may_stand (xs ++ at_top) own.name && Below (is_void own.name) own children (stay (own.name ∷ (xs ++ at_top)) children)) (stay (xs ++ at_top) more) h in
      let r = and_parts (may_stand (xs ++ at_top) own.name) (Below (is_void own.name) own children (stay (own.name ∷ (xs ++ at_top)) children)) q.0 in
      and_from (may_stand (xs ++ ns) own.name && Below (is_void own.name) own children (stay (own.name ∷ (xs ++ ns)) children)) (stay (xs ++ ns) more)
      (and_from (may_stand (xs ++ ns) own.name) (Below (is_void own.name) own children (stay (own.name ∷ (xs ++ ns)) children))
      (stands_there (group own.name) xs own.name refl r.0)
      (below_there (is_void own.name) own children (stay (own.name ∷ (xs ++ at_top)) children) (stay (own.name ∷ (xs ++ ns)) children) (stays_there (own.name ∷ xs) children) r.1))
      (stays_there xs more q.1)

-- The tokens of a print

abbrev print_of : ListedWords → D.HtmlForest → List ℕ
print_of p trees = serialized false None (kept_fitted p trees)

pub tokens_are : (p : ListedWords) (trees : D.HtmlForest) → lists_words p ≡ true → HaveOwnKeys trees → tokens_of (at data_state) (print_of p trees) ≡ html_tokens_of (partial (kept_fitted p trees))
tokens_are p trees l h =
    let f = kept_fitted p trees in
    let o = safe.own p trees l h in
    let s = safe.stands p trees in
    ap (tokens_of (at data_state)) (sym (append-nil (serialized false None f)))
    ∙ print_read f [] (can_be p at_top f l o s)
    ∙ append-nil (tokens_of_trees f)
    ∙ sym (read_alike f)
    ∙ ap tokens_of_trees (sym (whole-same p f o))
    ∙ tokens_same at_top (partial f) (low p f l o) (settled-stay at_top f s)

-- Trees of the partial builder are those of the whole one alone

pair-back : (xs : List HtmlAttribute) → map pair_of (map plain_attribute xs) ≡ xs
pair-back [] = refl
pair-back (x ∷ xs) = ap (λ ys. x ∷ ys) (pair-back xs)

whole-back : (g : HtmlForest) → partial (whole g) ≡ g
whole-back none = refl
whole-back (text bytes more) = ap (text bytes) (whole-back more)
whole-back (comment bytes more) = ap (comment bytes) (whole-back more)
whole-back (tag own children more) =
    ap (λ ps. tag (record own { attributes = ps }) (partial (whole children)) (partial (whole more))) (pair-back own.attributes)
    ∙ ap₂ (λ (c m : HtmlForest). tag own c m) (whole-back children) (whole-back more)

pub puts : (reading : Reading) (tags : List HtmlTag) (p : ListedWords) (trees : D.HtmlForest) (g : HtmlForest) → lists_words p ≡ true → HaveOwnKeys trees →
    is_open_place (map (λ (own : HtmlTag). own.name) tags ++ at_top) ≡ true → without_numbers (texts_joined (kept_fitted p trees)) ≡ whole g → Puts (placed reading tags) (tokens_of (at data_state) (print_of p trees)) g
puts reading tags p trees g l h k e =
    let f = kept_fitted p trees in
    let o = safe.own p trees l h in
    let s = settled-stay at_top f (safe.stands p trees) in
    let ns : Names = names (placed reading tags).stack in
    let is : normal_form (partial f) ≡ g =
    sym (joined-same f)
    ∙ sym (whole-back (partial (texts_joined f)))
    ∙ ap partial (whole-same p (texts_joined f) (joined-own p f o) ∙ e)
    ∙ whole-back g in
    let there : Puts (placed reading tags) (html_tokens_of (partial f)) (normal_form (partial f)) = stays_placed reading tags (partial f) (stays_there ns (open_is ns (ap is_open_place (names_placed reading tags) ∙ k)) [] (partial f) s) in
    subst (λ ts. Puts (placed reading tags) ts g) (sym (tokens_are p trees l h)) (subst (λ x. Puts (placed reading tags) (html_tokens_of (partial f)) x) is there)

-- What is read as it is written

attributes-read : (xs : List Attribute) → map plain_attribute (map attribute_read xs) ≡ xs → map attribute_read xs ≡ map pair_of xs
attributes-read xs h = sym (pair-back (map attribute_read xs)) ∙ ap (map pair_of) h

tag-back : (own : Tag) → IsReadBack own → html_tag (partial_tag own).name (partial_tag own).attributes ≡ unnumbered own
tag-back own r = ap (html_tag own.name) (sym (attributes-read own.attributes (ap (λ (t : Tag). t.attributes) r.same))) ∙ r.same

each-low : (xs : List Attribute) → map plain_attribute (map attribute_read xs) ≡ xs → EachIsLow (map pair_of xs)
each-low [] h = tt
each-low (a ∷ xs) h =
    let first : plain_attribute (attribute_read a) ≡ a = cc in
    let rest : map plain_attribute (map attribute_read xs) ≡ xs = cc in
    let space : no_space ≡ a.space = ap (λ (x : Attribute). x.space) first in
    let key : lowered (serialized_name a.space a.key) ≡ a.key = ap (λ (x : Attribute). x.key) first in
    (ap (λ (s : AttributeSpace). lowered (serialized_name s a.key)) space ∙ key, each-low xs rest)

-- trees that are those of the partial builder
abbrev Same : D.HtmlForest → Type 0
Same x = whole (partial x) ≡ without_numbers x

abbrev is_doctype : D.HtmlForest → Bool
is_doctype (D.doctype own more) = true
is_doctype _ = false

same-joined : (x y : D.HtmlForest) → Same x → Same y → Same (joined x y)
same-joined D.no_trees y a b = b
same-joined (D.text own more) y a b =
    let h : whole (partial more) ≡ without_numbers more = cc in
    ap (λ m. D.text (unmarked own.said) m) (same-joined more y h b)
same-joined (D.comment own more) y a b =
    let h : whole (partial more) ≡ without_numbers more = cc in
    ap (λ m. D.comment (unmarked own.said) m) (same-joined more y h b)
same-joined (D.doctype own more) y a b = absurd (true≢false (sym (ap is_doctype a)))
same-joined (D.element t below more) y a b =
    let e : html_tag (partial_tag t).name (partial_tag t).attributes ≡ unnumbered t = cc in
    let g : whole (partial below) ≡ without_numbers below = cc in
    let h : whole (partial more) ≡ without_numbers more = cc in
    ap (λ x. D.element x (whole (partial below)) (whole (partial (joined more y)))) e
    ∙ ap₂ (λ (x m : D.HtmlForest). D.element (unnumbered t) x m) g (same-joined more y h b)

same-before : (own : Marked (List ℕ)) (bytes : List ℕ) (x : D.HtmlForest) → own.said ≡ bytes → Same x → Same (text_before own bytes x)
same-before own [] x e a = a
same-before own (b ∷ bytes) D.no_trees e a = refl
same-before own (b ∷ bytes) (D.text other more) e a =
    let h : whole (partial more) ≡ without_numbers more = cc in
    ap (λ m. D.text (unmarked (b ∷ bytes ++ other.said)) m) h
same-before own (b ∷ bytes) (D.comment other more) e a = ap (λ m. D.text (unmarked own.said) m) a
same-before own (b ∷ bytes) (D.doctype other more) e a = absurd (true≢false (sym (ap is_doctype a)))
same-before own (b ∷ bytes) (D.element t below more) e a = ap (λ m. D.text (unmarked own.said) m) a

same-texts : (x : D.HtmlForest) → Same x → Same (texts_joined x)
same-texts D.no_trees a = refl
same-texts (D.text own more) a =
    let h : whole (partial more) ≡ without_numbers more = cc in
    same-before own own.said (texts_joined more) refl (same-texts more h)
same-texts (D.comment own more) a =
    let h : whole (partial more) ≡ without_numbers more = cc in
    ap (λ m. D.comment (unmarked own.said) m) (same-texts more h)
same-texts (D.doctype own more) a = absurd (true≢false (sym (ap is_doctype a)))
same-texts (D.element t below more) a =
    let e : html_tag (partial_tag t).name (partial_tag t).attributes ≡ unnumbered t = cc in
    let g : whole (partial below) ≡ without_numbers below = cc in
    let h : whole (partial more) ≡ without_numbers more = cc in
    ap (λ x. D.element x (whole (partial (texts_joined below))) (whole (partial (texts_joined more)))) e
    ∙ ap₂ (λ (x m : D.HtmlForest). D.element (unnumbered t) x m) (same-texts below g) (same-texts more h)

can-joined : (x y : D.HtmlForest) → CanBeReadAgain x → CanBeReadAgain y → CanBeReadAgain (joined x y)
can-joined D.no_trees y a b = b
can-joined (D.text own more) y a b = (a.0, can-joined more y a.1 b)
can-joined (D.comment own more) y a b = (a.0, can-joined more y a.1 b)
can-joined (D.doctype own more) y a b = (a.0, can-joined more y a.1 b)
can-joined (D.element t below more) y a b = (a.0, a.1, can-joined more y a.2 b)

low-joined : (x y : D.HtmlForest) → AreLow (partial x) → AreLow (partial y) → AreLow (partial (joined x y))
low-joined D.no_trees y a b = b
low-joined (D.text own more) y a b = low-joined more y a b
low-joined (D.comment own more) y a b = low-joined more y a b
low-joined (D.doctype own more) y a b = low-joined more y a b
low-joined (D.element t below more) y a b = (a.0, a.1, a.2, low-joined more y a.3 b)

stay-joined : (ns : Names) (x y : D.HtmlForest) → stay ns (partial x) ≡ true → stay ns (partial y) ≡ true → stay ns (partial (joined x y)) ≡ true
stay-joined ns D.no_trees y a b = b
stay-joined ns (D.text own more) y a b =
    let q = and_parts (list_all (may_be_read (is_flow (mode_of ns))) own.said) (stay ns (partial more)) a in
    and_from _ _ q.0 (stay-joined ns more y q.1 b)
stay-joined ns (D.comment own more) y a b = absurd (true≢false (sym a))
stay-joined ns (D.doctype own more) y a b = absurd (true≢false (sym a))
stay-joined ns (D.element t below more) y a b =
    let q = and_parts _ (stay ns (partial more)) a in
    and_from _ _ q.0 (stay-joined ns more y q.1 b)

-- What is around

back-can : (ns : Names) (x : D.HtmlForest) → AreReadBack x → settled ns x ≡ true → CanBeReadAgain x
back-can ns D.no_trees r s = tt
back-can ns (D.text own more) r s = (r.0, back-can ns more r.1 (and_parts _ (settled ns more) s).1)
back-can ns (D.comment own more) r s = absurd (true≢false (sym s))
back-can ns (D.doctype own more) r s = absurd (true≢false (sym s))
back-can ns (D.element t below more) r s =
    let q = and_parts (is_read ns t.name) _ s in
    let u = and_parts (is_settled_inside t.name below (settled (t.name ∷ ns) below)) (settled ns more) q.1 in
    (r.0.readable, inl (markup ns t q.0 r.0.low, below_read t.name below (settled (t.name ∷ ns) below) u.0 (back-can (t.name ∷ ns) below r.1)), back-can ns more r.2 u.1)

back-low : (x : D.HtmlForest) → AreReadBack x → AreLow (partial x)
back-low D.no_trees r = tt
back-low (D.text own more) r = back-low more r.1
back-low (D.comment own more) r = back-low more r
back-low (D.doctype own more) r = back-low more r
back-low (D.element t below more) r =
    (r.0.low, each-low t.attributes (ap (λ (x : Tag). x.attributes) r.0.same), back-low below r.1, back-low more r.2)

inside-settled : (ns : Names) (n : List ℕ) (below : D.HtmlForest) → is_settled_inside n below (settled ns below) ≡ true → settled ns below ≡ true
inside-settled ns n below h = here (is_void n) below (is_preformatted (group n) && Settled.begins_line below) h
  where
    here : (v : Bool) (x : D.HtmlForest) (b : Bool) → (if v then Settled.is_none x else not b && settled ns x) ≡ true → settled ns x ≡ true
    here false x b y = (and_parts (not b) (settled ns x) y).1
    here true D.no_trees b y = refl
    here true (D.text own more) b y = absurd (true≢false (sym y))
    here true (D.comment own more) b y = absurd (true≢false (sym y))
    here true (D.doctype own more) b y = absurd (true≢false (sym y))
    here true (D.element t below more) b y = absurd (true≢false (sym y))

back-same : (ns : Names) (x : D.HtmlForest) → AreReadBack x → settled ns x ≡ true → Same x
back-same ns D.no_trees r s = refl
back-same ns (D.text own more) r s = ap (λ m. D.text (unmarked own.said) m) (back-same ns more r.1 (and_parts _ (settled ns more) s).1)
back-same ns (D.comment own more) r s = absurd (true≢false (sym s))
back-same ns (D.doctype own more) r s = absurd (true≢false (sym s))
back-same ns (D.element t below more) r s =
    let q = and_parts (is_read ns t.name) _ s in
    let u = and_parts (is_settled_inside t.name below (settled (t.name ∷ ns) below)) (settled ns more) q.1 in
    ap (λ x. D.element x (whole (partial below)) (whole (partial more))) (tag-back t r.0)
    ∙ ap₂ (λ (x m : D.HtmlForest). D.element (unnumbered t) x m) (back-same (t.name ∷ ns) below r.1 (inside-settled (t.name ∷ ns) t.name below u.0)) (back-same ns more r.2 u.1)

-- a text before an element: whether it begins with a line feed
never : (v : Bool) → not (v && false) ≡ true
never true = refl
never false = refl

line-text : (bytes : List ℕ) (x y : HtmlForest) → begins_line x ≡ begins_line y → begins_line (text bytes x) ≡ begins_line (text bytes y)
line-text [] x y h = h
line-text (c ∷ bytes) x y h = refl

line-joined : (x y : D.HtmlForest) → begins_line (partial y) ≡ false → begins_line (partial (joined x y)) ≡ begins_line (partial x)
line-joined D.no_trees y h = h
line-joined (D.text own more) y h = line-text own.said (partial (joined more y)) (partial more) (line-joined more y h)
line-joined (D.comment own more) y h = refl
line-joined (D.doctype own more) y h = refl
line-joined (D.element t below more) y h = refl

-- an element that may stand, and has an end tag
stands-around : (ns : Names) (n : List ℕ) (own : HtmlTag) (below : HtmlForest) → own.name ≡ n → is_read ns n ≡ true → is_void n ≡ false → not (is_preformatted (group n) && begins_line below) ≡ true → stay (n ∷ ns) below ≡ true → stay ns (tag own below none) ≡ true
stands-around ns n own below e r v l s =
    let p = and_parts (may_stand ns n && (if is_void n then is_alone (group n) else not (is_alone (group n)))) _ r in
    let q = and_parts (may_stand ns n) (if is_void n then is_alone (group n) else not (is_alone (group n))) p.0 in
    let a : not (is_alone (group n)) ≡ true = sym (ap (λ b. if b then is_alone (group n) else not (is_alone (group n))) v) ∙ q.1 in
    let inner : (not (is_alone (group n)) && not (is_preformatted (group n) && begins_line below) && stay (n ∷ ns) below) ≡ true = and_from _ _ (and_from _ _ a l) s in
    subst (λ m. (may_stand ns m && (if is_void m then is_alone (group m) && is_none below else not (is_alone (group m)) && not (is_preformatted (group m) && begins_line below) && stay (m ∷ ns) below) && true) ≡ true) (sym e)
    (and_from _ _ (and_from _ _ q.0
    (ap (λ b. if b then is_alone (group n) && is_none below else not (is_alone (group n)) && not (is_preformatted (group n) && begins_line below) && stay (n ∷ ns) below) v ∙ inner)) refl)

-- Trees that are put somewhere

-- what is in an element around
abbrev content : Around → D.HtmlForest → D.HtmlForest
content a x = joined a.before (joined x a.after)

abbrev around_it : Around → D.HtmlForest → D.HtmlForest
around_it a x = D.element a.tag (content a x) D.no_trees

-- what is asked of them inside elements of these names
record Fits (ns : Names) (x : D.HtmlForest) : Type 0 where
  same : Same x
  can : CanBeReadAgain x
  low : AreLow (partial x)
  stays : stay ns (partial x) ≡ true

content-fits : (ns : Names) (a : Around) (x : D.HtmlForest) → StandsIn ns a → Fits (a.tag.name ∷ ns) x → Fits (a.tag.name ∷ ns) (content a x)
content-fits ns a x s f =
    let inner : Names = a.tag.name ∷ ns in
    record {
      same = same-joined a.before (joined x a.after) (back-same inner a.before s.before s.before_stays)
          (same-joined x a.after f.same (back-same inner a.after s.after s.after_stays));
      can = can-joined a.before (joined x a.after) (back-can inner a.before s.before s.before_stays)
          (can-joined x a.after f.can (back-can inner a.after s.after s.after_stays));
      low = low-joined a.before (joined x a.after) (back-low a.before s.before) (low-joined x a.after f.low (back-low a.after s.after));
      stays = stay-joined inner a.before (joined x a.after) (settled-stay inner a.before s.before_stays)
          (stay-joined inner x a.after f.stays (settled-stay inner a.after s.after_stays));
    }

element-fits : (ns : Names) (a : Around) (x : D.HtmlForest) → StandsIn ns a → not (is_preformatted (group a.tag.name) && begins_line (partial (content a x))) ≡ true → Fits (a.tag.name ∷ ns) x → Fits ns (around_it a x)
element-fits ns a x s l f =
    let c = content-fits ns a x s f in
    record {
      same = ap₂ (λ (t : Tag) (b : D.HtmlForest). D.element t b D.no_trees) (tag-back a.tag s.tag) c.same;
      can = (s.tag.readable, inl (markup ns a.tag s.stands s.tag.low, c.can), tt);
      low = (s.tag.low, each-low a.tag.attributes (ap (λ (t : Tag). t.attributes) s.tag.same), c.low, tt);
      stays = stands-around ns a.tag.name (partial_tag a.tag) (partial (content a x)) refl s.stands s.ends l c.stays;
    }

-- where an element is put, the texts before it alone may begin with a line feed
put-element : (around : List Around) (inner : Around) (x : D.HtmlForest) → AreAround around → Fits (names_in around) (around_it inner x) → Fits at_top (put around (around_it inner x))
put-element [] inner x a f = f
put-element (b ∷ around) inner x a f =
    let y : D.HtmlForest = joined (around_it inner x) b.after in
    let l : not (is_preformatted (group b.tag.name) && begins_line (partial (content b (around_it inner x)))) ≡ true =
    ap (λ v. not (is_preformatted (group b.tag.name) && v)) (line-joined b.before y refl ∙ line-same b.before) ∙ a.0.line in
    put-element around b (around_it inner x) a.1 (element-fits (names_in around) b (around_it inner x) a.0 l f)

put-fits : (around : List Around) (x : D.HtmlForest) → AreAround around → directly_in (λ n. is_heading n || is_preformatted (group n)) (names_in around) ≡ false → Fits (names_in around) x → Fits at_top (put around x)
put-fits [] x a h f = f
put-fits (b ∷ around) x a h f =
    let l : not (is_preformatted (group b.tag.name) && begins_line (partial (content b x))) ≡ true =
    ap (λ v. not (v && begins_line (partial (content b x)))) (false_from_ne_true (is_preformatted (group b.tag.name)) (λ y. true≢false (sym (or_right (is_heading b.tag.name) (is_preformatted (group b.tag.name)) y) ∙ h))) in
    put-element around b x a.1 (element-fits (names_in around) b x a.0 l f)

pub built : (context : Context) (v : Bool) (around : List Around) (p : ListedWords) (trees : D.HtmlForest) → is_flow_context context ≡ true → lists_words p ≡ true → HaveOwnKeys trees → AreAround around → is_open_place (names_in around) ≡ true →
    without_numbers (built_in context v (serialized false None (put around (kept_fitted p trees)))) ≡ without_numbers (texts_joined (put around (kept_fitted p trees)))
built context v around p trees flow l h a k =
    let f = kept_fitted p trees in
    let o = safe.own p trees l h in
    let s = safe.stands p trees in
    let ns = names_in around in
    let d = and_parts (not (in_ruby ns)) _ (and_parts (is_flow (mode_of ns) && ends_none ns) _ k).1 in
    let fits : Fits at_top (put around f) = put-fits around f a (not-true _ d.1) (record {
      same = whole-same p f o;
      can = can_be p at_top f l o s;
      low = low p f l o;
      stays = stays_there ns (open_is ns k) [] (partial f) (settled-stay at_top f s);
    }) in
    built_joined context flow v (put around f) (partial (put around f)) (sym fits.same) fits.can fits.low fits.stays
    ∙ ap whole (sym (joined-same (put around f)))
    ∙ same-texts (put around f) fits.same

-- The text

-- in an element whose texts are escaped, as in none
as_none : (t : Tag) (x : D.HtmlForest) → is_literal false t ≡ false → serialized false (parent_below t) x ≡ serialized false None x
as_none t x h = sym (printed_alike x None (parent_below t) (sym (literal (has_contents t)))) ∙ printed_alike x None None refl
  where
    literal : (v : Bool) → is_literal_in false (if v then None else Some t) ≡ false
    literal true = refl
    literal false = h

text-joined : (x y : D.HtmlForest) → serialized false None (joined x y) ≡ serialized false None x ++ serialized false None y
text-joined D.no_trees y = refl
text-joined (D.text own more) y = ap (λ z. escaped false own.said ++ z) (text-joined more y) ∙ sym (append_assoc (escaped false own.said) (serialized false None more) (serialized false None y))
text-joined (D.comment own more) y = ap (λ z. serialized_comment own.said ++ z) (text-joined more y) ∙ sym (append_assoc (serialized_comment own.said) (serialized false None more) (serialized false None y))
text-joined (D.doctype own more) y = ap (λ z. serialized_doctype own.said.name ++ z) (text-joined more y) ∙ sym (append_assoc (serialized_doctype own.said.name) (serialized false None more) (serialized false None y))
text-joined (D.element t below more) y =
    let inner = unless_void t (serialized false (parent_below t) below) in
    let m = serialized false None more in
    let n = serialized false None y in
    ap (λ z. start_tag t ++ (inner ++ (end_tag t ++ z))) (text-joined more y)
    ∙ ap (λ z. start_tag t ++ (inner ++ z)) (sym (append_assoc (end_tag t) m n))
    ∙ ap (λ z. start_tag t ++ z) (sym (append_assoc inner (end_tag t ++ m) n))
    ∙ sym (append_assoc (start_tag t) (inner ++ (end_tag t ++ m)) n)

arranged : (f s b x a e c : List ℕ) → f ++ ((s ++ ((b ++ (x ++ a)) ++ (e ++ []))) ++ c) ≡ (f ++ (s ++ b)) ++ (x ++ (a ++ (e ++ c)))
arranged f s b x a e c =
    ap (λ z. f ++ ((s ++ ((b ++ (x ++ a)) ++ z)) ++ c)) (append-nil e)
    ∙ ap (λ z. f ++ z) (append_assoc s ((b ++ (x ++ a)) ++ e) c)
    ∙ ap (λ z. f ++ (s ++ z)) (append_assoc (b ++ (x ++ a)) e c ∙ append_assoc b (x ++ a) (e ++ c) ∙ ap (λ z. b ++ z) (append_assoc x a (e ++ c)))
    ∙ ap (λ z. f ++ z) (sym (append_assoc s b (x ++ (a ++ (e ++ c)))))
    ∙ sym (append_assoc f (s ++ b) (x ++ (a ++ (e ++ c))))

no_void : (v b : Bool) → b ≡ false → (v && b) ≡ false
no_void true b h = h
no_void false b h = refl

-- what stands in an element around is written between its tags
inner-text : (ns : Names) (a : Around) (x : D.HtmlForest) → StandsIn ns a → unless_void a.tag (serialized false (parent_below a.tag) (content a x)) ≡ serialized false None a.before ++ (serialized false None x ++ serialized false None a.after)
inner-text ns a x s =
    let p = and_parts (may_stand ns a.tag.name && _) _ s.stands in
    let q = and_parts (may_stand ns a.tag.name) _ p.0 in
    let void : is_one_of void_names a.tag.name ≡ false = void_same ns a.tag.name q.0 ∙ s.ends in
    ap (λ v. if v then [] else serialized false (parent_below a.tag) (content a x)) (no_void (is_html a.tag) (is_one_of void_names a.tag.name) void)
    ∙ as_none a.tag (content a x) (markup ns a.tag s.stands s.tag.low).1
    ∙ text-joined a.before (joined x a.after)
    ∙ ap (λ z. serialized false None a.before ++ z) (text-joined x a.after)

pub text_put : (around : List Around) (x : D.HtmlForest) → AreAround around → serialized false None (put around x) ≡ front around ++ (serialized false None x ++ back around)
text_put [] x s = sym (append-nil (serialized false None x))
text_put (a ∷ around) x s =
    text_put around (around_it a x) s.1
    ∙ ap (λ z. front around ++ ((start_tag a.tag ++ (z ++ (end_tag a.tag ++ []))) ++ back around)) (inner-text (names_in around) a x s.0)
    ∙ arranged (front around) (start_tag a.tag) (serialized false None a.before) (serialized false None x) (serialized false None a.after) (end_tag a.tag) (back around)
