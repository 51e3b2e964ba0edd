-- What the end tag of an element of a print does at a place of a page: it closes it, and nothing else.
use Rattle.std.proofs.Common.{Bool, List, None, Option, [], ap, ap₂, arith, codes, false, if◌then◌else◌, inl, inr, not, refl, sym, true, true≢false, ℕ, ◌&&◌, ◌==◌, ◌∙◌, ◌∷◌, ◌≡◌}
use Rattle.std.specs.Str.{bytes_eq}
use Rattle.std.proofs.lemmas.Bool.{and_left, and_parts, and_right, cases_Bool, cond-false, cond-true, or_left, or_parts}
use Rattle.std.proofs.lemmas.Slice.Eq.{bytes_eq-Decides}
use Rattle.tl_tree_spec.specs.Builder as P
use Rattle.tl_tree_spec.specs.Groups as G
use Rattle.tl_tree_spec.specs.HtmlForest.{HtmlTag}
use Rattle.tl_tree_spec.specs.Stays as Y
use Rattle.tl_tree_spec.proofs.Active.{is_active, same_number}
use Rattle.tl_tree_spec.proofs.Ends.{is_plain}
use Rattle.tl_tree_spec.proofs.Starts.{mode-row, mode-table, mode-table_body}
use Rattle.tl_dom_spec.specs.Adoption as A
use Rattle.tl_dom_spec.specs.Body as D
use Rattle.tl_dom_spec.specs.Builder as B
use Rattle.tl_dom_spec.specs.Dispatcher as M
use Rattle.tl_dom_spec.specs.Formatting as F
use Rattle.tl_dom_spec.specs.Path as W
use Rattle.tl_dom_spec.specs.Reset as E
use Rattle.tl_dom_spec.specs.Tables as S
use Rattle.tl_dom_spec.specs.Tags as T
use Rattle.tl_dom_spec.specs.Tags.{Tag}
use Rattle.tl_dom_spec.proofs.PartNames.{facts, has_twin, twin}
use Rattle.tl_dom_spec.proofs.PartPaths.{tag_with}
use Rattle.tl_tree_safe.proofs.PageTags.{AreTwins, Inner, mode-path, mode-reset, mode_at, mode_tags, names_of, tags_of}
use Rattle.tl_tree_safe.proofs.PageStates.{Active, Counts, grown, kept, marked, marked-left, not-listed, Ordered, plain-left, skipped, state}
use Rattle.tl_tree_safe.specs.OfPages.{are_given}
use Rattle.tl_tree_safe.proofs.PageStarts.{Around, Stands, flow-mode, in-mode, is_flow_mode, stays-on}

same_name : (n : List ℕ) → bytes_eq n n ≡ true
same_name n = (bytes_eq-Decides n n).1 refl

unlisted-none : (k : ℕ) (es : List B.Entry) → F.is_listed k es ≡ false → F.unlisted k es ≡ es
unlisted-none k [] h = refl
unlisted-none k (e ∷ es) h =
    let two = or_parts (F.is_entry k e) (F.is_listed k es) h in
    cond-false _ _ _ two.0 ∙ ap (λ fs. e ∷ fs) (unlisted-none k es two.1)

-- the element that is open, with what is in it
abbrev pub inside : ℕ → Tag → W.Nodes → W.Frame
inside n t nodes = grown (W.new_frame n t W.here) nodes

-- it goes into the frame around it
abbrev pub with_element : W.Nodes → Tag → W.Nodes → W.Nodes
with_element nodes t below = W.and_element nodes t (W.joined W.no_nodes below)

module _ (b : B.Builder) (own : HtmlTag) (source : Option ℕ) (n : ℕ) (below : W.Nodes)
    (f : W.Frame) (nodes : W.Nodes) (rest : W.Path) (opened_so : f.is_open ≡ true) where
  abbrev tag : Tag
  tag = tag_with source own

  abbrev current : W.Frame
  current = inside n tag below

  abbrev path : W.Path
  path = current ∷ grown f nodes ∷ rest

  abbrev pub shut : W.Path
  shut = grown f (with_element nodes tag below) ∷ rest

  abbrev pub before : List B.Entry → B.Mode → Counts → B.Builder
  before a m k = state b path a m false k

  abbrev pub after : List B.Entry → B.Mode → Counts → B.Builder
  after a m k = state b shut a m false k

  popped-is : W.popped path ≡ shut
  popped-is = stays-on W.no_frame (grown f (with_element nodes tag below)) rest opened_so refl

  pops : (test : W.Frame → Bool) → test current ≡ true → W.popped_through test path ≡ shut
  pops test h = ap W.popped (stays-on (λ (g : W.Frame). not (test g)) current (grown f nodes ∷ rest) refl (ap not h)) ∙ popped-is

  module _ (a : List B.Entry) (m : B.Mode) (k : Counts) where
    abbrev c : B.Builder
    c = before a m k

    abbrev d : B.Builder
    d = after a m k

    pop-current : B.pop_current_node c ≡ d
    pop-current = ap (B.with_path c) popped-is

    -- implied end tags, and then this one
    closes-current : (but test : Tag → Bool) → (T.is_implied tag && not (but tag)) ≡ false → test tag ≡ true → B.close_except_for but test c ≡ d
    closes-current but test i h =
        ap (λ (p : W.Path). B.pop_until test (B.with_path c p)) (stays-on (λ (g : W.Frame). T.is_implied g.tag && not (but g.tag)) current (grown f nodes ∷ rest) refl i)
        ∙ ap (B.with_path c) (pops (W.has_tag test) h)

    found : (test stops : Tag → Bool) → test tag ≡ true → W.has_within test stops path ≡ true
    found test stops h = or_left (test tag) _ h

    closes : (but test stops : Tag → Bool) (other : B.Builder) → (T.is_implied tag && not (but tag)) ≡ false → test tag ≡ true →
        (if W.has_within test stops path then B.close_except_for but test c else other) ≡ d
    closes but test stops other i h = cond-true _ _ _ (found test stops h) ∙ closes-current but test i h

    not_implied : (g : G.Group) → G.group own.name ≡ g → G.is_implied_group g ≡ false → (T.is_implied tag && not (T.no_tag tag)) ≡ false
    not_implied g e h = and_left (T.is_implied tag) true (sym (facts own.name).implied ∙ ap G.is_implied_group e ∙ h)

    excepted : (but : Tag → Bool) → but tag ≡ true → (T.is_implied tag && not (but tag)) ≡ false
    excepted but h = and_right (T.is_implied tag) (not (but tag)) (ap not h)

    named : T.is_named own.name tag ≡ true
    named = same_name own.name

    other-end : A.any_other_end_tag own.name c ≡ d
    other-end = closes (T.is_named own.name) (T.is_named own.name) (T.is_special b.flags.counts_search) c (excepted (T.is_named own.name) named) named

    block-end : (g : G.Group) → G.group own.name ≡ g → G.is_implied_group g ≡ false → D.close_in_scope T.no_tag (T.is_named own.name) c ≡ d
    block-end g e h = closes T.no_tag (T.is_named own.name) T.is_scope c (not_implied g e h) named

    -- of the groups whose elements are not listed as active
    body-closes : (g : G.Group) → G.group own.name ≡ g → (ns : List (List ℕ)) → Y.stands_in_flow g ns own.name ≡ true → Y.is_alone g ≡ false → is_active g ≡ false → is_plain g ≡ true →
        D.body_end c (twin g) own.name ≡ B.Done d
    body-closes G.a_paragraph e ns h l v pl =
        let is : T.is_paragraph tag ≡ true = sym (facts own.name).paragraph ∙ ap G.is_paragraph_group e in
        ap (λ x. B.Done (B.close_except_for T.is_paragraph T.is_paragraph x)) (cond-true _ _ _ (found T.is_paragraph T.is_button_scope is))
        ∙ ap B.Done (closes-current T.is_paragraph T.is_paragraph (excepted T.is_paragraph is) is)
    body-closes G.a_block e ns h l v pl = ap B.Done (block-end G.a_block e refl)
    body-closes G.a_heading e ns h l v pl =
        ap B.Done (closes T.no_tag T.is_heading T.is_scope c (not_implied G.a_heading e refl) (sym (facts own.name).heading ∙ ap G.is_heading_group e))
    body-closes G.a_preformatted e ns h l v pl = ap B.Done (block-end G.a_preformatted e refl)
    body-closes G.an_item e ns h l v pl =
        let is : T.is_any (codes "li") tag ≡ true = sym (facts own.name).item ∙ ap G.is_item_group e in
        ap B.Done (closes (T.is_any (codes "li")) (T.is_any (codes "li")) T.is_list_scope c (excepted (T.is_any (codes "li")) is) is)
    body-closes G.a_description e ns h l v pl =
        ap B.Done (closes (T.is_named own.name) (T.is_named own.name) T.is_scope c (excepted (T.is_named own.name) named) named)
    body-closes G.a_button e ns h l v pl = ap B.Done (block-end G.a_button e refl)
    body-closes G.a_ruby_base e ns h l v pl = ap B.Done other-end
    body-closes G.a_ruby_text e ns h l v pl = ap B.Done other-end
    body-closes G.any_other e ns h l v pl = ap B.Done other-end
    body-closes G.an_anchor e ns h l v pl = absurd (true≢false v)
    body-closes G.a_format e ns h l v pl = absurd (true≢false v)
    body-closes G.a_nobr e ns h l v pl = absurd (true≢false v)
    body-closes G.a_break e ns h l v pl = absurd (true≢false l)
    body-closes G.a_void e ns h l v pl = absurd (true≢false l)
    body-closes G.a_detail e ns h l v pl = absurd (true≢false l)
    body-closes G.a_rule e ns h l v pl = absurd (true≢false l)
    body-closes G.a_table e ns h l v pl = absurd (true≢false (sym pl))
    body-closes _ e ns h l v pl = absurd (true≢false (sym h))

  -- the adoption agency

  unlisted-closes : (a : List B.Entry) (m : B.Mode) (k : Counts) → F.is_listed n a ≡ false → A.adoption_agency own.name (before a m k) ≡ after a m k
  unlisted-closes a m k h =
      cond-true _ _ _ (ap₂ (λ (x y : Bool). x && not y) (same_name own.name) h) ∙ pop-current a m k

  abbrev entry : F.Listed
  entry = record { number = n; tag = tag }

  module _ (a : List B.Entry) (m : B.Mode) (k : Counts) (h : F.is_listed n a ≡ false) where
    abbrev listed_here : B.Builder
    listed_here = before (B.formatting n tag ∷ a) m k

    round : A.adoption_round own.name listed_here ≡ B.Done (after a m k)
    round =
        ap (A.with_formatting own.name listed_here) (cond-true _ _ _ (same_name own.name))
        ∙ cond-false _ _ _ (ap not (or_left (n == n) _ (same_number n)))
        ∙ cond-false _ _ _ (ap not (or_left (n == n) _ (same_number n)))
        ∙ ap (A.with_block listed_here entry) (cond-true _ _ _ (same_number n))
        ∙ ap₂ (λ (p : W.Path) (es : List B.Entry). B.Done (record listed_here { path = p; active = es }))
        (pops (W.has_number n) (same_number n))
        (cond-true _ _ _ (same_number n) ∙ unlisted-none n a h)

    listed-closes : A.adoption_agency own.name listed_here ≡ after a m k
    listed-closes =
        cond-false _ _ _ (and_right (T.is_named own.name tag) _ (ap not (or_left (n == n) (F.is_listed n a) (same_number n))))
        ∙ ap (B.repeated 7 (A.adoption_round own.name)) round

  -- the entries that are left once the current element is closed
  pub record Left (base : List B.Entry) (is : List Inner) (a : List B.Entry) (m : B.Mode) (k : Counts) (o : B.Outcome) (to : B.Mode) : Type 0 where
    pub left : List B.Entry
    pub active : Active base left is
    pub gives : o ≡ B.Done (after left to k)

  abbrev me : Inner
  me = record { number = n; source = source; own = own }

  active-closes : {base a : List B.Entry} {is : List Inner} (low : ℕ) (m : B.Mode) (k : Counts) → are_given low base ≡ true → Ordered low n is → Y.is_mark own.name ≡ false →
      Active base a (me ∷ is) → Left base is a m k (B.Done (A.adoption_agency own.name (before a m k))) m
  active-closes low m k g o u (marked y s) = absurd (true≢false (sym y ∙ u))
  active-closes {base} low m k g o u (kept {i} {es} x v s) =
      record { left = es; active = s; gives = ap B.Done (listed-closes es m k (not-listed base low g n n (omega arith) o s)) }
  active-closes {base} low m k g o u (skipped {i} {es} x s) =
      record { left = es; active = s; gives = ap B.Done (unlisted-closes es m k (not-listed base low g n n (omega arith) o s)) }

-- By the mode

cell-end : (c : B.Builder) (n : List ℕ) (g : G.Group) → has_twin g ≡ true → is_plain g ≡ true → S.cell_end c (twin g) n ≡ D.body_end c (twin g) n
cell-end c n G.a_table t h = absurd (true≢false (sym h))
cell-end c n G.a_caption t h = absurd (true≢false (sym h))
cell-end c n G.a_column_group t h = absurd (true≢false (sym h))
cell-end c n G.a_column t h = absurd (true≢false (sym h))
cell-end c n G.a_table_body t h = absurd (true≢false (sym h))
cell-end c n G.a_row t h = absurd (true≢false (sym h))
cell-end c n G.a_cell t h = absurd (true≢false (sym h))
cell-end c n G.elsewhere t h = absurd (true≢false (sym t))
cell-end c n _ t h = refl

caption-end : (c : B.Builder) (n : List ℕ) (g : G.Group) → has_twin g ≡ true → is_plain g ≡ true → S.caption_end c (twin g) n ≡ D.body_end c (twin g) n
caption-end c n G.a_table t h = absurd (true≢false (sym h))
caption-end c n G.a_caption t h = absurd (true≢false (sym h))
caption-end c n G.a_column_group t h = absurd (true≢false (sym h))
caption-end c n G.a_column t h = absurd (true≢false (sym h))
caption-end c n G.a_table_body t h = absurd (true≢false (sym h))
caption-end c n G.a_row t h = absurd (true≢false (sym h))
caption-end c n G.a_cell t h = absurd (true≢false (sym h))
caption-end c n G.elsewhere t h = absurd (true≢false (sym t))
caption-end c n _ t h = refl

end-flow : (m : B.Mode) (c : B.Builder) (n : List ℕ) (g : G.Group) → is_flow_mode m ≡ true → has_twin g ≡ true → is_plain g ≡ true → M.mode_step m c (B.an_end (twin g) n) ≡ D.body_end c (twin g) n
end-flow B.in_body c n g f t h = refl
end-flow B.in_cell c n g f t h = cell-end c n g t h
end-flow B.in_caption c n g f t h = caption-end c n g t h
end-flow _ c n g f t h = absurd (true≢false (sym f))

active-end : (g : G.Group) → is_active g ≡ true → (c : B.Builder) (n : List ℕ) → D.body_end c (twin g) n ≡ B.Done (A.adoption_agency n c)
active-end G.an_anchor v c n = refl
active-end G.a_format v c n = refl
active-end G.a_nobr v c n = refl
active-end _ v c n = absurd (true≢false (sym v))

no_mark : (g : G.Group) (ns : List (List ℕ)) (n : List ℕ) → Y.stands_in_flow g ns n ≡ true → Y.is_mark_group g ≡ false
no_mark G.a_mark ns n h = absurd (true≢false (sym h))
no_mark G.a_caption ns n h = absurd (true≢false (sym h))
no_mark G.a_cell ns n h = absurd (true≢false (sym h))
no_mark _ ns n h = refl

-- what may stand of a group that is none of tables stands in the flow
pub in_flow : (g : G.Group) (ns : List (List ℕ)) (n : List ℕ) → is_plain g ≡ true → Y.stands g ns n ≡ true → (P.is_flow (P.mode_of ns) ≡ true) × (Y.stands_in_flow g ns n ≡ true)
in_flow G.a_table ns n pl h = absurd (true≢false (sym pl))
in_flow G.a_caption ns n pl h = absurd (true≢false (sym pl))
in_flow G.a_column_group ns n pl h = absurd (true≢false (sym pl))
in_flow G.a_column ns n pl h = absurd (true≢false (sym pl))
in_flow G.a_table_body ns n pl h = absurd (true≢false (sym pl))
in_flow G.a_row ns n pl h = absurd (true≢false (sym pl))
in_flow G.a_cell ns n pl h = absurd (true≢false (sym pl))
in_flow g ns n pl h = and_parts (P.is_flow (P.mode_of ns)) (Y.stands_in_flow g ns n) h

pub mode-plain : (g : G.Group) (m : P.Mode) → is_plain g ≡ true → P.mode_by g m ≡ m
mode-plain G.a_table m h = absurd (true≢false (sym h))
mode-plain G.a_caption m h = absurd (true≢false (sym h))
mode-plain G.a_column_group m h = absurd (true≢false (sym h))
mode-plain G.a_column m h = absurd (true≢false (sym h))
mode-plain G.a_table_body m h = absurd (true≢false (sym h))
mode-plain G.a_row m h = absurd (true≢false (sym h))
mode-plain G.a_cell m h = absurd (true≢false (sym h))
mode-plain _ m h = refl

module _ (b : B.Builder) (around : B.Mode) (base : List B.Entry) (outer : List Tag) (low : ℕ) (held : List ℕ) (all : Around b around base outer low)
    (is : List Inner) (f : W.Frame) (nodes : W.Nodes) (rest : W.Path) (at : Stands outer held is f rest)
    (own : HtmlTag) (source : Option ℕ) (n : ℕ) (below : W.Nodes) (k : Counts) where
  abbrev end_tag : Tag
  end_tag = tag_with source own

  abbrev pm : P.Mode
  pm = P.mode_of (names_of is)

  -- the mode around it, and in it
  abbrev out : B.Mode
  out = mode_at around pm

  abbrev at_end : List B.Entry → B.Mode → B.Builder
  at_end a m = before b own source n below f nodes rest at.is_so a m k

  abbrev at_last : List B.Entry → B.Mode → B.Builder
  at_last a m = after b own source n below f nodes rest at.is_so a m k

  abbrev inner_mode : G.Group → B.Mode
  inner_mode g = mode_at around (P.mode_by g pm)

  abbrev ends : G.Group → List B.Entry → B.Outcome
  ends g a = M.mode_step (inner_mode g) (at_end a (inner_mode g)) (B.an_end (twin g) own.name)

  abbrev pub me_here : Inner
  me_here = record { number = n; source = source; own = own }

  abbrev pub Ended : G.Group → List B.Entry → Type 0
  Ended g a = Left b own source n below f nodes rest at.is_so base is a (inner_mode g) k (ends g a) out

  plain-ended : (a : List B.Entry) → Ordered low n is → Active base a (me_here ∷ is) → (g : G.Group) → G.group own.name ≡ g → has_twin g ≡ true →
      Y.stands g (names_of is) own.name ≡ true → Y.is_alone g ≡ false → is_plain g ≡ true → Ended g a
  plain-ended a o active g e t h l pl =
      let flow = in_flow g (names_of is) own.name pl h in
      let m : Y.is_mark own.name ≡ false = ap Y.is_mark_group e ∙ no_mark g (names_of is) own.name flow.1 in
      let by : (left : List B.Entry) → D.body_end (at_end a out) (twin g) own.name ≡ B.Done (at_last left out) → ends g a ≡ B.Done (at_last left out) =
      λ left gives.
      ap (λ x. M.mode_step (mode_at around x) (at_end a (mode_at around x)) (B.an_end (twin g) own.name)) (mode-plain g pm pl)
      ∙ end-flow out (at_end a out) own.name g (flow-mode around pm all.flows flow.0) t pl
      ∙ gives in
      elim (cases_Bool (is_active g)) [
        | inl v ↦ (
            let r = active-closes b own source n below f nodes rest at.is_so low out k all.given o m active in
            record { left = r.left; active = r.active; gives = by r.left (active-end g v (at_end a out) own.name ∙ r.gives) })
        | inr v ↦
            record {
              left = a;
              active = plain-left m (ap is_active e ∙ v) active;
              gives = by a (body-closes b own source n below f nodes rest at.is_so a out k g e (names_of is) flow.1 l v pl);
            }
      ]

  -- what is in a table scope
  in_scope : (test : Tag → Bool) (a : List B.Entry) (m : B.Mode) → test end_tag ≡ true → B.has_in_table_scope test (at_end a m) ≡ true
  in_scope test a m h = or_left (test end_tag) _ h

  cleared-none : (test : Tag → Bool) (a : List B.Entry) (m : B.Mode) → test end_tag ≡ true → B.clear_stack_back_to test (at_end a m) ≡ at_end a m
  cleared-none test a m h = ap (B.with_path (at_end a m)) (stays-on (λ (g : W.Frame). not (test g.tag)) (inside n end_tag below) (grown f nodes ∷ rest) refl (ap not h))

  same_out : (m : B.Mode) (a : List B.Entry) → out ≡ m → B.Done (at_last a m) ≡ B.Done (at_last a out)
  same_out m a e = ap (λ x. B.Done (at_last a x)) (sym e)

  closes-all : (test : Tag → Bool) (a : List B.Entry) (m : B.Mode) → G.is_implied own.name ≡ false → test end_tag ≡ true → B.close_except_for T.no_tag test (at_end a m) ≡ at_last a m
  closes-all test a m i h = closes-current b own source n below f nodes rest at.is_so a m k T.no_tag test (and_left (T.is_implied end_tag) true (sym (facts own.name).implied ∙ i)) h

  table-end : (a : List B.Entry) → T.is_table end_tag ≡ true → ends G.a_table a ≡ B.Done (at_last a out)
  table-end a h =
      cond_done (S.table_closed (at_end a B.in_table)) (at_end a B.in_table) (in_scope T.is_table a B.in_table h)
      ∙ ap (λ (p : W.Path). B.Done (E.reset_insertion_mode (B.with_path (at_end a B.in_table) p))) (pops b own source n below f nodes rest at.is_so (W.has_tag T.is_table) h)
      ∙ ap (λ m. B.Done (at_last a m)) (mode-path (at_last a B.in_table) (shut b own source n below f nodes rest at.is_so) ∙ ap (mode_tags (at_last a B.in_table)) at.tags_are ∙ resets (at_last a B.in_table) is at.twins)
    where
      cond_done : {v : Bool} (x y : B.Builder) → v ≡ true → B.Done (if v then x else y) ≡ B.Done x
      cond_done x y e = ap B.Done (cond-true _ x y e)

      resets : (c : B.Builder) (js : List Inner) → AreTwins js → mode_tags (at_last a B.in_table) (tags_of outer js) ≡ mode_at around (P.mode_of (names_of js))
      resets c js t = mode-reset (record b { context = None }) around outer all.some all.resets js t

  marked-end : (test : Tag → Bool) (a : List B.Entry) (m to : B.Mode) → G.is_implied own.name ≡ false → test end_tag ≡ true → out ≡ to →
      B.Done (if B.has_in_table_scope test (at_end a m) then B.switch_to to (B.clear_to_last_marker (B.close_except_for T.no_tag test (at_end a m))) else at_end a m)
      ≡ B.Done (at_last (B.without_last_marker a) out)
  marked-end test a m to i h e =
      ap B.Done (cond-true _ _ _ (in_scope test a m h))
      ∙ ap (λ c. B.Done (B.switch_to to (B.clear_to_last_marker c))) (closes-all test a m i h)
      ∙ same_out to (B.without_last_marker a) e

  named_here : T.is_named own.name end_tag ≡ true
  named_here = same_name own.name

  row-end : (a : List B.Entry) → S.is_row end_tag ≡ true → S.is_table_row_context end_tag ≡ true → out ≡ B.in_table_body → ends G.a_row a ≡ B.Done (at_last a out)
  row-end a h x e =
      ap B.Done (cond-true _ _ _ (in_scope S.is_row a B.in_row h))
      ∙ ap (λ c. B.Done (B.switch_to B.in_table_body (B.pop_current_node c))) (cleared-none S.is_table_row_context a B.in_row x)
      ∙ ap (λ c. B.Done (B.switch_to B.in_table_body c)) (pop-current b own source n below f nodes rest at.is_so a B.in_row k)
      ∙ same_out B.in_table_body a e

  body-end : (a : List B.Entry) → S.is_table_body_context end_tag ≡ true → out ≡ B.in_table → ends G.a_table_body a ≡ B.Done (at_last a out)
  body-end a x e =
      ap B.Done (cond-true _ _ _ (in_scope (T.is_named own.name) a B.in_table_body named_here))
      ∙ ap (λ c. B.Done (B.switch_to B.in_table (B.pop_current_node c))) (cleared-none S.is_table_body_context a B.in_table_body x)
      ∙ ap (λ c. B.Done (B.switch_to B.in_table c)) (pop-current b own source n below f nodes rest at.is_so a B.in_table_body k)
      ∙ same_out B.in_table a e

  columns-end : (a : List B.Entry) → T.is_any (codes "colgroup") end_tag ≡ true → out ≡ B.in_table → ends G.a_column_group a ≡ B.Done (at_last a out)
  columns-end a h e =
      ap B.Done (cond-true _ _ _ h)
      ∙ ap (λ c. B.Done (B.switch_to B.in_table c)) (pop-current b own source n below f nodes rest at.is_so a B.in_column_group k)
      ∙ same_out B.in_table a e

  part-ended : (a : List B.Entry) → Active base a (me_here ∷ is) → (g : G.Group) → G.group own.name ≡ g →
      Y.stands g (names_of is) own.name ≡ true → Y.is_alone g ≡ false → is_plain g ≡ false → Ended g a
  part-ended a active G.a_table e h l pl =
      record { left = a; active = plain-left (ap Y.is_mark_group e) (ap is_active e) active; gives = table-end a (sym (facts own.name).table ∙ ap G.is_table_group e) }
  part-ended a active G.a_caption e h l pl =
      let o : out ≡ B.in_table = ap (mode_at around) (in-mode G.is_table_group P.in_table mode-table refl is h) in
      record {
        left = B.without_last_marker a;
        active = marked-left (ap Y.is_mark_group e) active;
        gives = marked-end S.is_caption a B.in_caption B.in_table (ap G.is_implied_group e) (sym (facts own.name).caption ∙ ap G.is_caption_group e) o;
      }
  part-ended a active G.a_column_group e h l pl =
      let o : out ≡ B.in_table = ap (mode_at around) (in-mode G.is_table_group P.in_table mode-table refl is h) in
      record {
        left = a;
        active = plain-left (ap Y.is_mark_group e) (ap is_active e) active;
        gives = columns-end a (sym (facts own.name).column_group ∙ ap G.is_column_group_group e) o;
      }
  part-ended a active G.a_table_body e h l pl =
      let o : out ≡ B.in_table = ap (mode_at around) (in-mode G.is_table_group P.in_table mode-table refl is h) in
      record {
        left = a;
        active = plain-left (ap Y.is_mark_group e) (ap is_active e) active;
        gives = body-end a (sym (facts own.name).body_context ∙ or_left (G.is_table_body own.name) _ (ap G.is_table_body_group e)) o;
      }
  part-ended a active G.a_row e h l pl =
      let o : out ≡ B.in_table_body = ap (mode_at around) (in-mode G.is_table_body_group P.in_table_body mode-table_body refl is h) in
      record {
        left = a;
        active = plain-left (ap Y.is_mark_group e) (ap is_active e) active;
        gives = row-end a (sym (facts own.name).row ∙ ap G.is_row_group e) (sym (facts own.name).row_context ∙ or_left (G.is_row own.name) _ (ap G.is_row_group e)) o;
      }
  part-ended a active G.a_cell e h l pl =
      let o : out ≡ B.in_row = ap (mode_at around) (in-mode G.is_row_group P.in_row mode-row refl is h) in
      record {
        left = B.without_last_marker a;
        active = marked-left (ap Y.is_mark_group e) active;
        gives = marked-end (T.is_named own.name) a B.in_cell B.in_row (ap G.is_implied_group e) named_here o;
      }
  part-ended a active G.a_column e h l pl = absurd (true≢false l)
  part-ended a active _ e h l pl = absurd (true≢false pl)

  -- the end tag of the current element
  pub ended : (a : List B.Entry) → Ordered low n is → Active base a (me_here ∷ is) → (g : G.Group) → G.group own.name ≡ g → has_twin g ≡ true →
      Y.stands g (names_of is) own.name ≡ true → Y.is_alone g ≡ false → Ended g a
  ended a o active g e t h l = elim (cases_Bool (is_plain g)) [
    | inl pl ↦ plain-ended a o active g e t h l pl
    | inr pl ↦ part-ended a active g e h l pl
  ]
