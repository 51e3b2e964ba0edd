-- What is done to a builder whose nodes are changed all alike: it is done to the builder, and then they are changed.
use Rattle.std.proofs.Common.{Bool, List, None, Option, Some, [], ap, ap₂, false, if◌then◌else◌, not, refl, suc, true, zero, ℕ, ◌&&◌, ◌++◌, ◌∙◌, ◌∷◌, ◌≡◌}
use Rattle.std.specs.Prelude.{option_map, ◌+◌, ◌-◌}
use Rattle.tl_html_spec.specs.Doctypes.{Doctype}
use Rattle.tl_dom_spec.specs.Adoption as A
use Rattle.tl_dom_spec.specs.Builder as B
use Rattle.tl_dom_spec.specs.Formatting as F
use Rattle.tl_dom_spec.specs.Marks.{Marked, marked}
use Rattle.tl_dom_spec.specs.Path as W
use Rattle.tl_dom_spec.specs.Reset as E
use Rattle.tl_dom_spec.specs.Tags as T
use Rattle.tl_dom_spec.specs.Tags.{Attribute, Tag}
use Rattle.tl_tree_safe.proofs.FilledPaths.{Fills, adjusted_tag-m, append-m, at_number-m, cloned-m, clones-m, elements-m, has_open-m, has_within-m, inside_of-m, is_open_number-m, mf, mode_of-m, moved_into-m, mp, new_frame-m, open-m, outermost-m, outermost_at-m, outside_of-m, place_in-m, popped-m, popped_through-m, popped_to-m, popped_while-m, pushed_at-m, put-m, settled_while-m, top_tag-m}

module _ (h : W.Nodes → W.Nodes) (H : Fills h) where
  abbrev pub mb : B.Builder → B.Builder
  mb b = record b { path = mp h H b.path }

  abbrev pub mo : B.Outcome → B.Outcome
  mo (B.Done b) = B.Done (mb b)
  mo (B.Again b) = B.Again (mb b)

  -- one of two
  pub if-m : (v w : Bool) (x y x' y' : B.Builder) → v ≡ w → mb x ≡ x' → mb y ≡ y' → mb (if v then x else y) ≡ (if w then x' else y')
  if-m v w x y x' y' e f g = by v ∙ ap (λ u. if u then x' else y') e
    where
      by : (u : Bool) → mb (if u then x else y) ≡ (if u then x' else y')
      by true = f
      by false = g

  pub if-o : (v w : Bool) (x y x' y' : B.Outcome) → v ≡ w → mo x ≡ x' → mo y ≡ y' → mo (if v then x else y) ≡ (if w then x' else y')
  if-o v w x y x' y' e f g = by v ∙ ap (λ u. if u then x' else y') e
    where
      by : (u : Bool) → mo (if u then x else y) ≡ (if u then x' else y')
      by true = f
      by false = g

  pub repeated-m : (n : ℕ) (step stepped : B.Builder → B.Outcome) (o : B.Outcome) → ((b : B.Builder) → mo (step b) ≡ stepped (mb b)) → mb (B.repeated n step o) ≡ B.repeated n stepped (mo o)
  repeated-m n step stepped (B.Done b) e = done n
    where
      done : (n : ℕ) → mb (B.repeated n step (B.Done b)) ≡ B.repeated n stepped (B.Done (mb b))
      done zero = refl
      done (suc n) = refl
  repeated-m zero step stepped (B.Again b) e = refl
  repeated-m (suc n) step stepped (B.Again b) e = repeated-m n step stepped (step b) e ∙ ap (B.repeated n stepped) (e b)

  pub map-m : (f : B.Builder → B.Builder) (o : B.Outcome) → ((b : B.Builder) → mb (f b) ≡ f (mb b)) → mo (B.outcome_map f o) ≡ B.outcome_map f (mo o)
  map-m f (B.Done b) e = ap B.Done (e b)
  map-m f (B.Again b) e = ap B.Again (e b)

  -- Insertions

  pub insert_at-m : (place : W.Place) (tag : Tag) (b : B.Builder) → mb (B.insert_element_at place tag b) ≡ B.insert_element_at place tag (mb b)
  insert_at-m place tag b =
      ap (λ (p : W.Path). record b { path = p; next = suc b.next })
      (pushed_at-m h H place (W.new_frame b.next tag place) b.path ∙ ap (λ f. B.pushed_at place f (mp h H b.path)) (new_frame-m h H b.next tag place))

  pub place-m : (b : B.Builder) → B.appropriate_place b ≡ B.appropriate_place (mb b)
  place-m b = place_in-m h H b.is_fostering b.path

  pub insert-m : (tag : Tag) (b : B.Builder) → mb (B.insert_element tag b) ≡ B.insert_element tag (mb b)
  insert-m tag b = insert_at-m (B.appropriate_place b) tag b ∙ ap (λ p. B.insert_element_at p tag (mb b)) (place-m b)

  pub alone_at-m : (place : W.Place) (tag : Tag) (b : B.Builder) → mb (B.insert_and_pop_at place tag b) ≡ B.insert_and_pop_at place tag (mb b)
  alone_at-m place tag b =
      ap (λ (p : W.Path). record b { path = p; next = suc b.next })
      (put-m h H place (W.and_element W.no_nodes tag W.no_nodes) b.path
      ∙ ap (λ n. W.put place n (mp h H b.path)) (H.element tag W.no_nodes ∙ ap (W.and_element W.no_nodes tag) H.none))

  pub alone-m : (tag : Tag) (b : B.Builder) → mb (B.insert_and_pop tag b) ≡ B.insert_and_pop tag (mb b)
  alone-m tag b = alone_at-m (B.appropriate_place b) tag b ∙ ap (λ p. B.insert_and_pop_at p tag (mb b)) (place-m b)

  pub bytes-m : (bytes : List ℕ) (b : B.Builder) → mb (B.insert_bytes bytes b) ≡ B.insert_bytes bytes (mb b)
  bytes-m bytes b =
      ap (B.with_path b)
      (put-m h H (B.appropriate_place b) (W.and_text W.no_nodes (marked b.marks bytes)) b.path
      ∙ ap₂ (λ p n. W.put p n (mp h H b.path)) (place-m b) (H.text (marked b.marks bytes)))

  pub character-m : (c : ℕ) (b : B.Builder) → mb (B.insert_character c b) ≡ B.insert_character c (mb b)
  character-m c b = bytes-m (c ∷ []) b

  -- a comment that stays one
  abbrev pub Stays : Marked (List ℕ) → Type 0
  Stays own = h (W.and_comment W.no_nodes own) ≡ W.and_comment W.no_nodes own

  pub comment_at-m : (place : W.Place) (own : Marked (List ℕ)) (b : B.Builder) → Stays own → mb (B.insert_comment_at place own b) ≡ B.insert_comment_at place own (mb b)
  comment_at-m place own b s =
      ap (B.with_path b) (put-m h H place (W.and_comment W.no_nodes own) b.path ∙ ap (λ n. W.put place n (mp h H b.path)) s)

  pub comment-m : (own : Marked (List ℕ)) (b : B.Builder) → Stays own → mb (B.insert_comment own b) ≡ B.insert_comment own (mb b)
  comment-m own b s = comment_at-m (B.appropriate_place b) own b s ∙ ap (λ p. B.insert_comment_at p own (mb b)) (place-m b)

  pub doctype-m : (own : Marked Doctype) (path : W.Path) → mp h H (W.put W.here (W.and_doctype W.no_nodes own) path) ≡ W.put W.here (W.and_doctype W.no_nodes own) (mp h H path)
  doctype-m own path = put-m h H W.here (W.and_doctype W.no_nodes own) path ∙ ap (λ n. W.put W.here n (mp h H path)) (H.doctype own)

  pub attributes-m : (k : ℕ) (more : List Attribute) (b : B.Builder) → mb (B.add_attributes k more b) ≡ B.add_attributes k more (mb b)
  attributes-m k more b =
      let change : W.Frame → W.Frame = λ (f : W.Frame). record f { tag = B.with_more more f.tag } in
      ap (B.with_path b) (at_number-m h H k change change (λ _. refl) b.path)

  pub implied_element-m : (name : List ℕ) (b : B.Builder) → mb (B.insert_implied name b) ≡ B.insert_implied name (mb b)
  implied_element-m name b = ap B.add_one (insert-m (T.bare_tag name) b)

  pub raw_text_at-m : (place : W.Place) (tag : Tag) (b : B.Builder) → mb (B.parse_raw_text_at place tag b) ≡ B.parse_raw_text_at place tag (mb b)
  raw_text_at-m place tag b = ap (λ (c : B.Builder). record c { reads = B.state_inside tag.name; original = b.mode; mode = B.text_mode }) (insert_at-m place tag b)

  pub raw_text-m : (tag : Tag) (b : B.Builder) → mb (B.parse_raw_text tag b) ≡ B.parse_raw_text tag (mb b)
  raw_text-m tag b = raw_text_at-m (B.appropriate_place b) tag b ∙ ap (λ p. B.parse_raw_text_at p tag (mb b)) (place-m b)

  -- What is popped

  pub pop-m : (b : B.Builder) → mb (B.pop_current_node b) ≡ B.pop_current_node (mb b)
  pop-m b = ap (B.with_path b) (popped-m h H b.path)

  pub until-m : (test : Tag → Bool) (b : B.Builder) → mb (B.pop_until test b) ≡ B.pop_until test (mb b)
  until-m test b = ap (B.with_path b) (popped_through-m h H (W.has_tag test) (λ _. refl) b.path)

  pub implied-m : (but : Tag → Bool) (b : B.Builder) → mb (B.generate_implied_end_tags_except_for but b) ≡ B.generate_implied_end_tags_except_for but (mb b)
  implied-m but b = ap (B.with_path b) (popped_while-m h H (λ (f : W.Frame). T.is_implied f.tag && not (but f.tag)) (λ _. refl) b.path)

  pub close-m : (but test : Tag → Bool) (b : B.Builder) → mb (B.close_except_for but test b) ≡ B.close_except_for but test (mb b)
  close-m but test b = until-m test (B.generate_implied_end_tags_except_for but b) ∙ ap (B.pop_until test) (implied-m but b)

  pub back_to-m : (test : Tag → Bool) (b : B.Builder) → mb (B.clear_stack_back_to test b) ≡ B.clear_stack_back_to test (mb b)
  back_to-m test b = ap (B.with_path b) (popped_to-m h H (W.has_tag test) (λ _. refl) b.path)

  -- What is asked

  pub scope-m : (test stops : Tag → Bool) (b : B.Builder) → W.has_within test stops b.path ≡ W.has_within test stops (mb b).path
  scope-m test stops b = has_within-m h H test stops b.path

  pub current-m : (b : B.Builder) → B.current_tag b ≡ B.current_tag (mb b)
  current-m b = top_tag-m h H b.path

  pub template-m : (b : B.Builder) → B.has_template b ≡ B.has_template (mb b)
  template-m b = has_open-m h H T.is_template b.path

  pub adjusted-m : (b : B.Builder) → B.adjusted_current_node b ≡ B.adjusted_current_node (mb b)
  adjusted-m b = adjusted_tag-m h H b.context b.path

  -- Active formatting elements

  pub formatting-m : (tag : Tag) (b : B.Builder) → mb (F.insert_formatting_element tag b) ≡ F.insert_formatting_element tag (mb b)
  formatting-m tag b = ap (λ (c : B.Builder). record c { active = B.formatting b.next tag ∷ F.with_room tag b.active }) (insert-m tag b)

  reopen-m : (tag : Tag) (b : B.Builder) → mb (F.reopen tag b) ≡ F.reopen tag (mb b)
  reopen-m tag b = ap (λ (c : B.Builder). record (B.add_one c) { active = B.formatting b.next tag ∷ b.active }) (insert-m tag b)

  reopen_each-m : (b : B.Builder) (entries : List B.Entry) → mb (F.reopen_each b entries) ≡ F.reopen_each (mb b) entries
  reopen_each-m b [] = refl
  reopen_each-m b (B.marker ∷ entries) = refl
  reopen_each-m b (B.formatting k tag ∷ entries) =
      by (reopen_each-m b entries) (W.is_open_number k b.path)
      ∙ ap (λ (v : Bool). elim v as (λ _. B.Builder) [
        | true ↦ record (mb b) { active = B.formatting k tag ∷ entries }
        | false ↦ F.reopen tag (F.reopen_each (mb b) entries)
      ]) (is_open_number-m h H k b.path)
    where
      by : mb (F.reopen_each b entries) ≡ F.reopen_each (mb b) entries → (v : Bool) → mb (elim v as (λ _. B.Builder) [
        | true ↦ record b { active = B.formatting k tag ∷ entries }
        | false ↦ F.reopen tag (F.reopen_each b entries)
      ]) ≡ elim v as (λ _. B.Builder) [
        | true ↦ record (mb b) { active = B.formatting k tag ∷ entries }
        | false ↦ F.reopen tag (F.reopen_each (mb b) entries)
      ]
      by e true = refl
      by e false = reopen-m tag (F.reopen_each b entries) ∙ ap (F.reopen tag) e

  pub reconstruct-m : (b : B.Builder) → mb (F.reconstruct_formatting b) ≡ F.reconstruct_formatting (mb b)
  reconstruct-m b = reopen_each-m b b.active

  -- Modes, and templates

  pub reset-m : (b : B.Builder) → mb (E.reset_insertion_mode b) ≡ E.reset_insertion_mode (mb b)
  reset-m b = ap (λ m. record (mb b) { mode = m }) (mode_of-m h H b (W.elements b.path) ∙ ap (E.mode_of b) (elements-m h H b.path))

  pub close_template-m : (b : B.Builder) → mb (E.close_template b) ≡ E.close_template (mb b)
  close_template-m b =
      let left : B.Builder → B.Builder = λ (c : B.Builder). record (B.clear_to_last_marker c) { templates = E.templates_popped (B.clear_to_last_marker c).templates } in
      reset-m (left (B.pop_until T.is_template b)) ∙ ap (λ (c : B.Builder). E.reset_insertion_mode (left c)) (until-m T.is_template b)

  pub template_end-m : (b : B.Builder) → mb (E.template_end_tag b) ≡ E.template_end_tag (mb b)
  template_end-m b =
      let closed : B.Builder = B.with_path b (W.popped_while (λ (f : W.Frame). T.is_implied_thoroughly f.tag) b.path) in
      if-m (B.has_template b) (B.has_template (mb b)) (E.close_template closed) b
      (E.close_template (B.with_path (mb b) (W.popped_while (λ (f : W.Frame). T.is_implied_thoroughly f.tag) (mb b).path))) (mb b)
      (template-m b)
      (close_template-m closed ∙ ap (λ (p : W.Path). E.close_template (B.with_path b p)) (popped_while-m h H (λ (f : W.Frame). T.is_implied_thoroughly f.tag) (λ _. refl) b.path))
      refl

  -- The adoption agency

  pub other_end-m : (name : List ℕ) (b : B.Builder) → mb (A.any_other_end_tag name b) ≡ A.any_other_end_tag name (mb b)
  other_end-m name b =
      if-m _ _ (B.close_except_for (T.is_named name) (T.is_named name) b) b (B.close_except_for (T.is_named name) (T.is_named name) (mb b)) (mb b)
      (scope-m (T.is_named name) (T.is_special b.flags.counts_search) b) (close-m (T.is_named name) (T.is_named name) b) refl

  readopted-m : (place : W.Place) (block : W.Frame) (own : F.Listed) (clones : A.Clones) (outer : W.Path) → mp h H clones.frames ≡ clones.frames →
      mp h H (A.readopted place block own clones outer) ≡ A.readopted place (mf h H block) own clones (mp h H outer)
  readopted-m place block own clones outer e =
      ap (λ (fs : W.Path). record (W.new_frame clones.next own.tag W.here) { children = h block.children; waiting = h block.waiting } ∷ fs)
      (append-m h H (A.outermost_at place (record block { children = W.no_nodes; waiting = W.no_nodes; place = W.here } ∷ clones.frames)) outer
      ∙ ap (λ (fs : W.Path). fs ++ mp h H outer)
      (outermost_at-m h H place (record block { children = W.no_nodes; waiting = W.no_nodes; place = W.here } ∷ clones.frames)
      ∙ ap₂ (λ (x : W.Nodes) (fs : W.Path). A.outermost_at place (record block { children = x; waiting = x; place = W.here } ∷ fs)) H.none e))

  adopted-m : (b : B.Builder) (own : F.Listed) (block : W.Frame) (clones : A.Clones) (outer : W.Path) → mp h H clones.frames ≡ clones.frames →
      mo (A.adopted b own block clones outer) ≡ A.adopted (mb b) own (mf h H block) clones (mp h H outer)
  adopted-m b own block clones outer e =
      ap (λ (p : W.Path). B.Again (record b {
        path = p;
        active = A.entry_moved own.number clones.next own.tag clones.frames clones.entries;
        next = suc clones.next;
        added = b.added + (suc clones.next - b.next);
      }))
      (append-m h H (A.moved_into block.number clones.next (A.inside_of block.number b.path)) (A.readopted (W.place_in b.is_fostering outer) block own clones outer)
      ∙ ap₂ (λ (x y : W.Path). x ++ y)
      (moved_into-m h H block.number clones.next (A.inside_of block.number b.path) ∙ ap (A.moved_into block.number clones.next) (inside_of-m h H block.number b.path))
      (readopted-m (W.place_in b.is_fostering outer) block own clones outer e
      ∙ ap (λ p. A.readopted p (mf h H block) own clones (mp h H outer)) (place_in-m h H b.is_fostering outer)))

  first-m : (fs : List W.Frame) → option_map (mf h H) (A.first fs) ≡ A.first (mp h H fs)
  first-m [] = refl
  first-m (f ∷ fs) = refl

  inside-same : (o : Option W.Frame) (f : W.Frame) → A.is_inside_of o f ≡ A.is_inside_of (option_map (mf h H) o) (mf h H f)
  inside-same None f = refl
  inside-same (Some a) f = refl

  settled_to-m : (o : Option W.Frame) (path : W.Path) → mp h H (A.settled_to o path) ≡ A.settled_to (option_map (mf h H) o) (mp h H path)
  settled_to-m None path = settled_while-m h H (A.is_inside_of None) (λ _. refl) path path
  settled_to-m (Some a) path = settled_while-m h H (A.is_inside_of (Some a)) (λ _. refl) path path

  with_block-m : (b : B.Builder) (own : F.Listed) (o : Option W.Frame) → mo (A.with_block b own o) ≡ A.with_block (mb b) own (option_map (mf h H) o)
  with_block-m b own None =
      ap (λ (p : W.Path). B.Done (record b { path = p; active = F.unlisted own.number b.active })) (popped_through-m h H (W.has_number own.number) (λ _. refl) b.path)
  with_block-m b own (Some block) =
      let inner : List W.Frame = W.elements (A.inside_of own.number (A.outside_of block.number b.path)) in
      let outer : W.Path = A.outside_of block.number b.path in
      let inner_is : mp h H inner ≡ W.elements (A.inside_of own.number (A.outside_of block.number (mp h H b.path))) =
      elements-m h H (A.inside_of own.number (A.outside_of block.number b.path))
      ∙ ap W.elements (inside_of-m h H own.number (A.outside_of block.number b.path) ∙ ap (A.inside_of own.number) (outside_of-m h H block.number b.path)) in
      adopted-m b own block (A.cloned 0 inner b.active b.next) (A.settled_to (A.first (W.elements (A.outside_of own.number b.path))) outer) (clones-m h H 0 inner b.active b.next)
      ∙ ap₂ (λ (r : A.Clones) (p : W.Path). A.adopted (mb b) own (mf h H block) r p)
      (cloned-m h H 0 inner b.active b.next ∙ ap (λ fs. A.cloned 0 fs b.active b.next) inner_is)
      (settled_to-m (A.first (W.elements (A.outside_of own.number b.path))) outer
      ∙ ap₂ (λ (o : Option W.Frame) (p : W.Path). A.settled_to o p)
      (first-m (W.elements (A.outside_of own.number b.path)) ∙ ap A.first (elements-m h H (A.outside_of own.number b.path) ∙ ap W.elements (outside_of-m h H own.number b.path)))
      (outside_of-m h H block.number b.path))

  furthest-m : (k : ℕ) (b : B.Builder) → option_map (mf h H) (A.furthest_block k b) ≡ A.furthest_block k (mb b)
  furthest-m k b =
      outermost-m h H (T.is_special b.flags.counts_search) k None (W.elements b.path)
      ∙ ap (A.outermost (T.is_special b.flags.counts_search) k None) (elements-m h H b.path)

  with_formatting-m : (name : List ℕ) (b : B.Builder) (o : Option F.Listed) → mo (A.with_formatting name b o) ≡ A.with_formatting name (mb b) o
  with_formatting-m name b None = ap B.Done (other_end-m name b)
  with_formatting-m name b (Some own) =
      if-o _ _ (B.Done (record b { active = F.unlisted own.number b.active })) _ (B.Done (record (mb b) { active = F.unlisted own.number b.active })) _
      (ap not (is_open_number-m h H own.number b.path)) refl
      (if-o _ _ (B.Done b) _ (B.Done (mb b)) _
      (ap not (open-m h H (W.has_number own.number) (W.has_tag T.is_scope) (λ _. refl) (λ _. refl) b.path)) refl
      (with_block-m b own (A.furthest_block own.number b) ∙ ap (A.with_block (mb b) own) (furthest-m own.number b)))

  round-m : (name : List ℕ) (b : B.Builder) → mo (A.adoption_round name b) ≡ A.adoption_round name (mb b)
  round-m name b = with_formatting-m name b (F.listed name b.active)

  pub agency-m : (name : List ℕ) (b : B.Builder) → mb (A.adoption_agency name b) ≡ A.adoption_agency name (mb b)
  agency-m name b =
      if-m _ _ (B.pop_current_node b) (B.repeated 8 (A.adoption_round name) (B.Again b)) (B.pop_current_node (mb b)) (B.repeated 8 (A.adoption_round name) (B.Again (mb b)))
      (looks b.path) (pop-m b) (repeated-m 8 (A.adoption_round name) (A.adoption_round name) (B.Again b) (round-m name))
    where
      looks : (p : W.Path) → (T.is_named name (W.top p).tag && not (F.is_listed (W.top p).number b.active)) ≡ (T.is_named name (W.top (mp h H p)).tag && not (F.is_listed (W.top (mp h H p)).number b.active))
      looks [] = refl
      looks (f ∷ p) = refl
