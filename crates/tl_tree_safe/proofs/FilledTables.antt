-- The same of the rules of tables, of those around the body, and of the dispatcher.
use Rattle.std.proofs.Common.{Bool, List, None, Option, Some, [], ap, codes, false, if◌then◌else◌, map, refl, suc, true, ℕ, ◌&&◌, ◌++◌, ◌==◌, ◌||◌, ◌∙◌, ◌∷◌, ◌≡◌, length}
use Rattle.std.specs.Prelude.{nat_lt, ⊤, ◌*◌, ◌+◌}
use Rattle.std.specs.Char.{is_ascii_whitespace, to_ascii_lowercase}
use Rattle.std.specs.Str.{bytes_eq}
use Rattle.tl_html_spec.specs.HtmlTokenizer.{replacement}
use Rattle.tl_dom_spec.specs.Adjusted as J
use Rattle.tl_dom_spec.specs.Body as D
use Rattle.tl_dom_spec.specs.Builder as B
use Rattle.tl_dom_spec.specs.Dispatcher as M
use Rattle.tl_dom_spec.specs.Groups as K
use Rattle.tl_dom_spec.specs.Head as Q
use Rattle.tl_dom_spec.specs.Outer as O
use Rattle.tl_dom_spec.specs.Path as W
use Rattle.tl_dom_spec.specs.Quirks.{is_quirky}
use Rattle.tl_dom_spec.specs.Reset as E
use Rattle.tl_dom_spec.specs.Tables as S
use Rattle.tl_dom_spec.specs.Tags as T
use Rattle.tl_dom_spec.specs.Tags.{Tag}
use Rattle.tl_tree_safe.proofs.FilledPaths.{Fills, elements-m, is_only-m, mp, popped_through-m, popped_to-m}
use Rattle.tl_tree_safe.proofs.FilledBuilders as R
use Rattle.tl_tree_safe.proofs.FilledRules as Y
use Rattle.tl_tree_safe.proofs.FilledRules.{Keeps}

module _ (h : W.Nodes → W.Nodes) (H : Fills h) where
  abbrev mb : B.Builder → B.Builder
  mb b = R.mb h H b

  abbrev mo : B.Outcome → B.Outcome
  mo o = R.mo h H o

  in_body : (b : B.Builder) (t : B.Token) → Keeps h H t → mo (D.in_body_step b t) ≡ D.in_body_step (mb b) t
  in_body b t s = Y.in_body-m h H b t s

  -- "in table"

  fostered-m : (b : B.Builder) (t : B.Token) → Keeps h H t → mo (S.with_foster_parenting b t) ≡ S.with_foster_parenting (mb b) t
  fostered-m b t s =
      R.map-m h H (B.fostering false) (D.in_body_step (B.fostering true b) t) (λ _. refl)
      ∙ ap (B.outcome_map (B.fostering false)) (in_body (B.fostering true b) t s)

  table_closed-m : (b : B.Builder) → mb (S.table_closed b) ≡ S.table_closed (mb b)
  table_closed-m b = R.reset-m h H (B.pop_until T.is_table b) ∙ ap E.reset_insertion_mode (R.until-m h H T.is_table b)

  opened-m : (test : Tag → Bool) (t : Tag) (b : B.Builder) → mb (B.insert_element t (B.clear_stack_back_to test b)) ≡ B.insert_element t (B.clear_stack_back_to test (mb b))
  opened-m test t b = R.insert-m h H t (B.clear_stack_back_to test b) ∙ ap (B.insert_element t) (R.back_to-m h H test b)

  body_opened-m : (b : B.Builder) (t : Tag) → mb (S.body_opened b t) ≡ S.body_opened (mb b) t
  body_opened-m b t = ap (B.switch_to B.in_table_body) (opened-m S.is_table_context t b)

  table_form-m : (o : Option ℕ) (b : B.Builder) (t : Tag) → mb (S.table_form o b t) ≡ S.table_form o (mb b) t
  table_form-m (Some k) b t = refl
  table_form-m None b t =
      R.if-m h H _ _ b (record (B.insert_and_pop t b) { form = Some b.next }) (mb b) (record (B.insert_and_pop t (mb b)) { form = Some b.next })
      (R.template-m h H b) refl (ap (λ (c : B.Builder). record c { form = Some b.next }) (R.alone-m h H t b))

  again_if : (v w : Bool) (f : B.Builder → B.Builder) (b : B.Builder) → v ≡ w → mb (f b) ≡ f (mb b) →
      mo (if v then B.Again (f b) else B.Done b) ≡ (if w then B.Again (f (mb b)) else B.Done (mb b))
  again_if v w f b e g = R.if-o h H v w (B.Again (f b)) (B.Done b) (B.Again (f (mb b))) (B.Done (mb b)) e (ap B.Again g) refl

  done_if : (v w : Bool) (f : B.Builder → B.Builder) (b : B.Builder) → v ≡ w → mb (f b) ≡ f (mb b) →
      mo (B.Done (if v then f b else b)) ≡ B.Done (if w then f (mb b) else mb b)
  done_if v w f b e g = ap B.Done (R.if-m h H v w (f b) b (f (mb b)) (mb b) e g refl)

  in_table_scope : (test : Tag → Bool) (b : B.Builder) → B.has_in_table_scope test b ≡ B.has_in_table_scope test (mb b)
  in_table_scope test b = R.scope-m h H test T.is_table_scope b

  table_start-m : (b : B.Builder) (g : K.Group) (t : Tag) (closes : Bool) → mo (S.table_start b g t closes) ≡ S.table_start (mb b) g t closes
  table_start-m b K.a_caption t closes =
      ap (λ (c : B.Builder). B.Done (B.switch_to B.in_caption c))
      (R.insert-m h H t (B.insert_marker (B.clear_stack_back_to S.is_table_context b))
      ∙ ap (λ (c : B.Builder). B.insert_element t (B.insert_marker c)) (R.back_to-m h H S.is_table_context b))
  table_start-m b K.a_column_group t closes = ap (λ (c : B.Builder). B.Done (B.switch_to B.in_column_group c)) (opened-m S.is_table_context t b)
  table_start-m b K.a_column t closes =
      ap (λ (c : B.Builder). B.Again (B.switch_to B.in_column_group c))
      (R.implied_element-m h H (codes "colgroup") (B.clear_stack_back_to S.is_table_context b) ∙ ap (B.insert_implied (codes "colgroup")) (R.back_to-m h H S.is_table_context b))
  table_start-m b K.a_table_body t closes = ap B.Done (body_opened-m b t)
  table_start-m b K.a_cell t closes = ap (λ (c : B.Builder). B.Again (B.add_one c)) (body_opened-m b (T.bare_tag (codes "tbody")))
  table_start-m b K.a_row t closes = ap (λ (c : B.Builder). B.Again (B.add_one c)) (body_opened-m b (T.bare_tag (codes "tbody")))
  table_start-m b K.a_table t closes = again_if _ _ S.table_closed b (in_table_scope T.is_table b) (table_closed-m b)
  table_start-m b K.a_style t closes = Y.head_start-m h H b K.a_style t
  table_start-m b K.a_script t closes = Y.head_start-m h H b K.a_script t
  table_start-m b K.a_template t closes = Y.head_start-m h H b K.a_template t
  table_start-m b K.an_input t closes =
      R.if-o h H _ _ (B.Done (B.insert_and_pop t b)) _ (B.Done (B.insert_and_pop t (mb b))) _ refl (ap B.Done (R.alone-m h H t b)) (fostered-m b (B.a_start K.an_input t closes) tt)
  table_start-m b K.a_form t closes = ap B.Done (table_form-m b.form b t)
  table_start-m b g t closes = fostered-m b (B.a_start g t closes) tt

  table_end-m : (b : B.Builder) (g : K.Group) (name : List ℕ) → mo (S.table_end b g name) ≡ S.table_end (mb b) g name
  table_end-m b K.a_table name = done_if _ _ S.table_closed b (in_table_scope T.is_table b) (table_closed-m b)
  table_end-m b K.the_body name = refl
  table_end-m b K.a_caption name = refl
  table_end-m b K.a_column name = refl
  table_end-m b K.a_column_group name = refl
  table_end-m b K.the_html name = refl
  table_end-m b K.a_table_body name = refl
  table_end-m b K.a_cell name = refl
  table_end-m b K.a_row name = refl
  table_end-m b K.a_template name = ap B.Done (R.template_end-m h H b)
  table_end-m b g name = fostered-m b (B.an_end g name) tt

  table_character-m : (b : B.Builder) (c : ℕ) → mo (S.table_character b c) ≡ S.table_character (mb b) c
  table_character-m b c =
      R.if-o h H _ _ (B.Again (record b { pending = []; original = b.mode; mode = B.in_table_text })) _ (B.Again (record (mb b) { pending = []; original = b.mode; mode = B.in_table_text })) _
      (ap S.is_text_in_table (R.current-m h H b)) refl (fostered-m b (B.a_character c) tt)

  in_table-m : (b : B.Builder) (t : B.Token) → Keeps h H t → mo (S.in_table_step b t) ≡ S.in_table_step (mb b) t
  in_table-m b (B.a_character c) s = table_character-m b c
  in_table-m b (B.a_comment own) s = ap B.Done (R.comment-m h H own b s)
  in_table-m b (B.a_doctype own) s = refl
  in_table-m b (B.a_start g t closes) s = table_start-m b g t closes
  in_table-m b (B.an_end g name) s = table_end-m b g name
  in_table-m b B.end_of_file s = Y.file_ended-m h H b

  -- "in table text"

  characters-m : (bytes : List ℕ) (b : B.Builder) → mb (S.body_characters bytes b) ≡ S.body_characters bytes (mb b)
  characters-m [] b = refl
  characters-m (c ∷ bytes) b = characters-m bytes (D.body_character c b) ∙ ap (S.body_characters bytes) (Y.body_character-m h H c b)

  pending-m : (b : B.Builder) → mb (S.pending_inserted b) ≡ S.pending_inserted (mb b)
  pending-m b =
      R.if-m h H _ _ b _ (mb b) _ refl refl
      (R.if-m h H _ _ (B.insert_bytes b.pending b) _ (B.insert_bytes b.pending (mb b)) _ refl (R.bytes-m h H b.pending b)
      (ap (B.fostering false) (characters-m b.pending (B.fostering true b))))

  text_again : (b : B.Builder) → mo (B.Again (B.switch_to b.original (S.pending_inserted b))) ≡ B.Again (B.switch_to b.original (S.pending_inserted (mb b)))
  text_again b = ap (λ (c : B.Builder). B.Again (B.switch_to b.original c)) (pending-m b)

  in_table_text-m : (b : B.Builder) (t : B.Token) → mo (S.in_table_text_step b t) ≡ S.in_table_text_step (mb b) t
  in_table_text-m b (B.a_character c) =
      ap B.Done (R.if-m h H (c == 0) (c == 0) b (record b { pending = b.pending ++ c ∷ [] }) (mb b) (record (mb b) { pending = b.pending ++ c ∷ [] }) refl refl refl)
  in_table_text-m b (B.a_comment own) = text_again b
  in_table_text-m b (B.a_doctype own) = text_again b
  in_table_text-m b (B.a_start g t closes) = text_again b
  in_table_text-m b (B.an_end g name) = text_again b
  in_table_text-m b B.end_of_file = text_again b

  -- "in caption"

  caption_closed-m : (b : B.Builder) → mb (S.caption_closed b) ≡ S.caption_closed (mb b)
  caption_closed-m b = ap (λ (c : B.Builder). B.switch_to B.in_table (B.clear_to_last_marker c)) (R.close-m h H T.no_tag S.is_caption b)

  after_caption-m : (b : B.Builder) → mo (S.after_caption b) ≡ S.after_caption (mb b)
  after_caption-m b = again_if _ _ S.caption_closed b (in_table_scope S.is_caption b) (caption_closed-m b)

  caption_start-m : (b : B.Builder) (g : K.Group) (t : Tag) (closes : Bool) → mo (S.caption_start b g t closes) ≡ S.caption_start (mb b) g t closes
  caption_start-m b K.a_caption t closes = after_caption-m b
  caption_start-m b K.a_column t closes = after_caption-m b
  caption_start-m b K.a_column_group t closes = after_caption-m b
  caption_start-m b K.a_table_body t closes = after_caption-m b
  caption_start-m b K.a_cell t closes = after_caption-m b
  caption_start-m b K.a_row t closes = after_caption-m b
  caption_start-m b g t closes = in_body b (B.a_start g t closes) tt

  caption_end-m : (b : B.Builder) (g : K.Group) (name : List ℕ) → mo (S.caption_end b g name) ≡ S.caption_end (mb b) g name
  caption_end-m b K.a_caption name = done_if _ _ S.caption_closed b (in_table_scope S.is_caption b) (caption_closed-m b)
  caption_end-m b K.a_table name = after_caption-m b
  caption_end-m b K.the_body name = refl
  caption_end-m b K.a_column name = refl
  caption_end-m b K.a_column_group name = refl
  caption_end-m b K.the_html name = refl
  caption_end-m b K.a_table_body name = refl
  caption_end-m b K.a_cell name = refl
  caption_end-m b K.a_row name = refl
  caption_end-m b g name = in_body b (B.an_end g name) tt

  in_caption-m : (b : B.Builder) (t : B.Token) → Keeps h H t → mo (S.in_caption_step b t) ≡ S.in_caption_step (mb b) t
  in_caption-m b (B.a_start g t closes) s = caption_start-m b g t closes
  in_caption-m b (B.an_end g name) s = caption_end-m b g name
  in_caption-m b (B.a_character c) s = in_body b (B.a_character c) s
  in_caption-m b (B.a_comment own) s = in_body b (B.a_comment own) s
  in_caption-m b (B.a_doctype own) s = in_body b (B.a_doctype own) s
  in_caption-m b B.end_of_file s = in_body b B.end_of_file s

  -- "in column group"

  columns_closed-m : (b : B.Builder) → mb (S.column_group_closed b) ≡ S.column_group_closed (mb b)
  columns_closed-m b = ap (B.switch_to B.in_table) (R.pop-m h H b)

  in_columns-is : (b : B.Builder) → S.is_in_column_group b ≡ S.is_in_column_group (mb b)
  in_columns-is b = ap (T.is_any (codes "colgroup")) (R.current-m h H b)

  after_columns-m : (b : B.Builder) → mo (S.after_column_group b) ≡ S.after_column_group (mb b)
  after_columns-m b = again_if _ _ S.column_group_closed b (in_columns-is b) (columns_closed-m b)

  column_start-m : (b : B.Builder) (g : K.Group) (t : Tag) → mo (S.column_start b g t) ≡ S.column_start (mb b) g t
  column_start-m b K.the_html t = ap B.Done (Y.html-m h H b t)
  column_start-m b K.a_column t = ap B.Done (R.alone-m h H t b)
  column_start-m b K.a_template t = Y.head_start-m h H b K.a_template t
  column_start-m b _ t = after_columns-m b

  column_end-m : (b : B.Builder) (g : K.Group) → mo (S.column_end b g) ≡ S.column_end (mb b) g
  column_end-m b K.a_column_group = done_if _ _ S.column_group_closed b (in_columns-is b) (columns_closed-m b)
  column_end-m b K.a_column = refl
  column_end-m b K.a_template = ap B.Done (R.template_end-m h H b)
  column_end-m b _ = after_columns-m b

  in_columns-m : (b : B.Builder) (t : B.Token) → Keeps h H t → mo (S.in_column_group_step b t) ≡ S.in_column_group_step (mb b) t
  in_columns-m b (B.a_character c) s =
      R.if-o h H _ _ (B.Done (B.insert_character c b)) _ (B.Done (B.insert_character c (mb b))) _ refl (ap B.Done (R.character-m h H c b)) (after_columns-m b)
  in_columns-m b (B.a_comment own) s = ap B.Done (R.comment-m h H own b s)
  in_columns-m b (B.a_doctype own) s = refl
  in_columns-m b (B.a_start g t closes) s = column_start-m b g t
  in_columns-m b (B.an_end g name) s = column_end-m b g
  in_columns-m b B.end_of_file s = Y.file_ended-m h H b

  -- "in table body"

  row_opened-m : (b : B.Builder) (t : Tag) → mb (S.row_opened b t) ≡ S.row_opened (mb b) t
  row_opened-m b t = ap (B.switch_to B.in_row) (opened-m S.is_table_body_context t b)

  popped_back-m : (test : Tag → Bool) (b : B.Builder) → mb (B.pop_current_node (B.clear_stack_back_to test b)) ≡ B.pop_current_node (B.clear_stack_back_to test (mb b))
  popped_back-m test b = R.pop-m h H (B.clear_stack_back_to test b) ∙ ap B.pop_current_node (R.back_to-m h H test b)

  body_closed-m : (b : B.Builder) → mb (S.body_closed b) ≡ S.body_closed (mb b)
  body_closed-m b = ap (B.switch_to B.in_table) (popped_back-m S.is_table_body_context b)

  after_body-m : (b : B.Builder) → mo (S.after_table_body b) ≡ S.after_table_body (mb b)
  after_body-m b = again_if _ _ S.body_closed b (in_table_scope (T.is_any (codes "tbody tfoot thead")) b) (body_closed-m b)

  table_body_start-m : (b : B.Builder) (g : K.Group) (t : Tag) (closes : Bool) → mo (S.table_body_start b g t closes) ≡ S.table_body_start (mb b) g t closes
  table_body_start-m b K.a_row t closes = ap B.Done (row_opened-m b t)
  table_body_start-m b K.a_cell t closes = ap (λ (c : B.Builder). B.Again (B.add_one c)) (row_opened-m b (T.bare_tag (codes "tr")))
  table_body_start-m b K.a_caption t closes = after_body-m b
  table_body_start-m b K.a_column t closes = after_body-m b
  table_body_start-m b K.a_column_group t closes = after_body-m b
  table_body_start-m b K.a_table_body t closes = after_body-m b
  table_body_start-m b g t closes = table_start-m b g t closes

  table_body_end-m : (b : B.Builder) (g : K.Group) (name : List ℕ) → mo (S.table_body_end b g name) ≡ S.table_body_end (mb b) g name
  table_body_end-m b K.a_table_body name = done_if _ _ S.body_closed b (in_table_scope (T.is_named name) b) (body_closed-m b)
  table_body_end-m b K.a_table name = after_body-m b
  table_body_end-m b g name = table_end-m b g name

  in_table_body-m : (b : B.Builder) (t : B.Token) → Keeps h H t → mo (S.in_table_body_step b t) ≡ S.in_table_body_step (mb b) t
  in_table_body-m b (B.a_start g t closes) s = table_body_start-m b g t closes
  in_table_body-m b (B.an_end g name) s = table_body_end-m b g name
  in_table_body-m b (B.a_character c) s = in_table-m b (B.a_character c) s
  in_table_body-m b (B.a_comment own) s = in_table-m b (B.a_comment own) s
  in_table_body-m b (B.a_doctype own) s = in_table-m b (B.a_doctype own) s
  in_table_body-m b B.end_of_file s = in_table-m b B.end_of_file s

  -- "in row"

  row_closed-m : (b : B.Builder) → mb (S.row_closed b) ≡ S.row_closed (mb b)
  row_closed-m b = ap (B.switch_to B.in_table_body) (popped_back-m S.is_table_row_context b)

  after_row-m : (b : B.Builder) → mo (S.after_row b) ≡ S.after_row (mb b)
  after_row-m b = again_if _ _ S.row_closed b (in_table_scope S.is_row b) (row_closed-m b)

  row_start-m : (b : B.Builder) (g : K.Group) (t : Tag) (closes : Bool) → mo (S.row_start b g t closes) ≡ S.row_start (mb b) g t closes
  row_start-m b K.a_cell t closes = ap (λ (c : B.Builder). B.Done (B.switch_to B.in_cell (B.insert_marker c))) (opened-m S.is_table_row_context t b)
  row_start-m b K.a_caption t closes = after_row-m b
  row_start-m b K.a_column t closes = after_row-m b
  row_start-m b K.a_column_group t closes = after_row-m b
  row_start-m b K.a_table_body t closes = after_row-m b
  row_start-m b K.a_row t closes = after_row-m b
  row_start-m b g t closes = table_start-m b g t closes

  row_end-m : (b : B.Builder) (g : K.Group) (name : List ℕ) → mo (S.row_end b g name) ≡ S.row_end (mb b) g name
  row_end-m b K.a_row name = done_if _ _ S.row_closed b (in_table_scope S.is_row b) (row_closed-m b)
  row_end-m b K.a_table name = after_row-m b
  row_end-m b K.a_table_body name = R.if-o h H _ _ (S.after_row b) (B.Done b) (S.after_row (mb b)) (B.Done (mb b)) (in_table_scope (T.is_named name) b) (after_row-m b) refl
  row_end-m b g name = table_end-m b g name

  in_row-m : (b : B.Builder) (t : B.Token) → Keeps h H t → mo (S.in_row_step b t) ≡ S.in_row_step (mb b) t
  in_row-m b (B.a_start g t closes) s = row_start-m b g t closes
  in_row-m b (B.an_end g name) s = row_end-m b g name
  in_row-m b (B.a_character c) s = in_table-m b (B.a_character c) s
  in_row-m b (B.a_comment own) s = in_table-m b (B.a_comment own) s
  in_row-m b (B.a_doctype own) s = in_table-m b (B.a_doctype own) s
  in_row-m b B.end_of_file s = in_table-m b B.end_of_file s

  -- "in cell"

  cell_closed-m : (test : Tag → Bool) (b : B.Builder) → mb (S.cell_closed test b) ≡ S.cell_closed test (mb b)
  cell_closed-m test b = ap (λ (c : B.Builder). B.switch_to B.in_row (B.clear_to_last_marker c)) (R.close-m h H T.no_tag test b)

  after_cell-m : (b : B.Builder) → mo (S.after_cell b) ≡ S.after_cell (mb b)
  after_cell-m b = again_if _ _ (S.cell_closed S.is_cell) b (in_table_scope S.is_cell b) (cell_closed-m S.is_cell b)

  after_cell_in-m : (name : List ℕ) (b : B.Builder) → mo (S.after_cell_in name b) ≡ S.after_cell_in name (mb b)
  after_cell_in-m name b = again_if _ _ (S.cell_closed S.is_cell) b (in_table_scope (T.is_named name) b) (cell_closed-m S.is_cell b)

  cell_start-m : (b : B.Builder) (g : K.Group) (t : Tag) (closes : Bool) → mo (S.cell_start b g t closes) ≡ S.cell_start (mb b) g t closes
  cell_start-m b K.a_caption t closes = after_cell-m b
  cell_start-m b K.a_column t closes = after_cell-m b
  cell_start-m b K.a_column_group t closes = after_cell-m b
  cell_start-m b K.a_table_body t closes = after_cell-m b
  cell_start-m b K.a_cell t closes = after_cell-m b
  cell_start-m b K.a_row t closes = after_cell-m b
  cell_start-m b g t closes = in_body b (B.a_start g t closes) tt

  cell_end-m : (b : B.Builder) (g : K.Group) (name : List ℕ) → mo (S.cell_end b g name) ≡ S.cell_end (mb b) g name
  cell_end-m b K.a_cell name = done_if _ _ (S.cell_closed (T.is_named name)) b (in_table_scope (T.is_named name) b) (cell_closed-m (T.is_named name) b)
  cell_end-m b K.the_body name = refl
  cell_end-m b K.a_caption name = refl
  cell_end-m b K.a_column name = refl
  cell_end-m b K.a_column_group name = refl
  cell_end-m b K.the_html name = refl
  cell_end-m b K.a_table name = after_cell_in-m name b
  cell_end-m b K.a_table_body name = after_cell_in-m name b
  cell_end-m b K.a_row name = after_cell_in-m name b
  cell_end-m b g name = in_body b (B.an_end g name) tt

  in_cell-m : (b : B.Builder) (t : B.Token) → Keeps h H t → mo (S.in_cell_step b t) ≡ S.in_cell_step (mb b) t
  in_cell-m b (B.a_start g t closes) s = cell_start-m b g t closes
  in_cell-m b (B.an_end g name) s = cell_end-m b g name
  in_cell-m b (B.a_character c) s = in_body b (B.a_character c) s
  in_cell-m b (B.a_comment own) s = in_body b (B.a_comment own) s
  in_cell-m b (B.a_doctype own) s = in_body b (B.a_doctype own) s
  in_cell-m b B.end_of_file s = in_body b B.end_of_file s

  -- Head: "initial" to "after head", "text"

  or_insert : (f : B.Builder → B.Outcome) (b : B.Builder) (c : ℕ) → mo (f b) ≡ f (mb b) →
      mo (if is_ascii_whitespace c then B.Done (B.insert_character c b) else f b) ≡ (if is_ascii_whitespace c then B.Done (B.insert_character c (mb b)) else f (mb b))
  or_insert f b c e = R.if-o h H _ _ (B.Done (B.insert_character c b)) (f b) (B.Done (B.insert_character c (mb b))) (f (mb b)) refl (ap B.Done (R.character-m h H c b)) e

  or_ignore : (f : B.Builder → B.Outcome) (b : B.Builder) (v : Bool) → mo (f b) ≡ f (mb b) → mo (if v then B.Done b else f b) ≡ (if v then B.Done (mb b) else f (mb b))
  or_ignore f b v e = R.if-o h H v v (B.Done b) (f b) (B.Done (mb b)) (f (mb b)) refl refl e

  ignore_or : (f : B.Builder → B.Outcome) (b : B.Builder) (v : Bool) → mo (f b) ≡ f (mb b) → mo (if v then f b else B.Done b) ≡ (if v then f (mb b) else B.Done (mb b))
  ignore_or f b v e = R.if-o h H v v (f b) (B.Done b) (f (mb b)) (B.Done (mb b)) refl e refl

  initial-m : (b : B.Builder) (t : B.Token) → Keeps h H t → mo (Q.initial_step b t) ≡ Q.initial_step (mb b) t
  initial-m b (B.a_character c) s = or_ignore Q.without_doctype b (is_ascii_whitespace c) refl
  initial-m b (B.a_comment own) s = ap B.Done (R.comment-m h H own b s)
  initial-m b (B.a_doctype own) s =
      ap (λ (p : W.Path). B.Done (record b { path = p; is_quirks = is_quirky own.said; mode = B.before_html })) (R.doctype-m h H own b.path)
  initial-m b (B.a_start g t closes) s = refl
  initial-m b (B.an_end g name) s = refl
  initial-m b B.end_of_file s = refl

  html_implied-m : (b : B.Builder) → mo (Q.html_implied b) ≡ Q.html_implied (mb b)
  html_implied-m b = ap (λ (c : B.Builder). B.Again (B.add_one (B.switch_to B.before_head c))) (R.insert-m h H (T.bare_tag (codes "html")) b)

  before_html_start-m : (b : B.Builder) (g : K.Group) (t : Tag) → mo (Q.before_html_start b g t) ≡ Q.before_html_start (mb b) g t
  before_html_start-m b K.the_html t = ap (λ (c : B.Builder). B.Done (B.switch_to B.before_head c)) (R.insert-m h H t b)
  before_html_start-m b _ t = html_implied-m b

  before_html-m : (b : B.Builder) (t : B.Token) → Keeps h H t → mo (Q.before_html_step b t) ≡ Q.before_html_step (mb b) t
  before_html-m b (B.a_character c) s = or_ignore Q.html_implied b (is_ascii_whitespace c) (html_implied-m b)
  before_html-m b (B.a_comment own) s = ap B.Done (R.comment-m h H own b s)
  before_html-m b (B.a_doctype own) s = refl
  before_html-m b (B.a_start g t closes) s = before_html_start-m b g t
  before_html-m b (B.an_end g name) s = ignore_or Q.html_implied b (Q.is_head_end g) (html_implied-m b)
  before_html-m b B.end_of_file s = html_implied-m b

  head_opened-m : (b : B.Builder) (t : Tag) → mb (Q.head_opened b t) ≡ Q.head_opened (mb b) t
  head_opened-m b t = ap (λ (c : B.Builder). B.switch_to B.in_head (record c { has_head = true })) (R.insert-m h H t b)

  head_implied-m : (b : B.Builder) → mo (Q.head_implied b) ≡ Q.head_implied (mb b)
  head_implied-m b = ap (λ (c : B.Builder). B.Again (B.add_one c)) (head_opened-m b (T.bare_tag (codes "head")))

  before_head_start-m : (b : B.Builder) (g : K.Group) (t : Tag) → mo (Q.before_head_start b g t) ≡ Q.before_head_start (mb b) g t
  before_head_start-m b K.the_html t = ap B.Done (Y.html-m h H b t)
  before_head_start-m b K.the_head t = ap B.Done (head_opened-m b t)
  before_head_start-m b _ t = head_implied-m b

  before_head-m : (b : B.Builder) (t : B.Token) → Keeps h H t → mo (Q.before_head_step b t) ≡ Q.before_head_step (mb b) t
  before_head-m b (B.a_character c) s = or_ignore Q.head_implied b (is_ascii_whitespace c) (head_implied-m b)
  before_head-m b (B.a_comment own) s = ap B.Done (R.comment-m h H own b s)
  before_head-m b (B.a_doctype own) s = refl
  before_head-m b (B.a_start g t closes) s = before_head_start-m b g t
  before_head-m b (B.an_end g name) s = ignore_or Q.head_implied b (Q.is_head_end g) (head_implied-m b)
  before_head-m b B.end_of_file s = head_implied-m b

  head_again : (b : B.Builder) → mo (B.Again (Q.head_closed b)) ≡ B.Again (Q.head_closed (mb b))
  head_again b = ap B.Again (Y.head_closed-m h H b)

  in_head_end-m : (b : B.Builder) (g : K.Group) → mo (Q.in_head_end b g) ≡ Q.in_head_end (mb b) g
  in_head_end-m b K.the_head = ap B.Done (Y.head_closed-m h H b)
  in_head_end-m b K.a_template = ap B.Done (R.template_end-m h H b)
  in_head_end-m b g = ignore_or (λ (c : B.Builder). B.Again (Q.head_closed c)) b (Q.is_body_end g) (head_again b)

  in_head-m : (b : B.Builder) (t : B.Token) → Keeps h H t → mo (Q.in_head_step b t) ≡ Q.in_head_step (mb b) t
  in_head-m b (B.a_character c) s = or_insert (λ (c : B.Builder). B.Again (Q.head_closed c)) b c (head_again b)
  in_head-m b (B.a_comment own) s = ap B.Done (R.comment-m h H own b s)
  in_head-m b (B.a_doctype own) s = refl
  in_head-m b (B.a_start g t closes) s = Y.head_start-m h H b g t
  in_head-m b (B.an_end g name) s = in_head_end-m b g
  in_head-m b B.end_of_file s = head_again b

  noscript_closed-m : (b : B.Builder) → mb (Q.noscript_closed b) ≡ Q.noscript_closed (mb b)
  noscript_closed-m b = ap (B.switch_to B.in_head) (R.pop-m h H b)

  noscript_again : (b : B.Builder) → mo (B.Again (Q.noscript_closed b)) ≡ B.Again (Q.noscript_closed (mb b))
  noscript_again b = ap B.Again (noscript_closed-m b)

  noscript_start-m : (b : B.Builder) (g : K.Group) (t : Tag) → mo (Q.noscript_start b g t) ≡ Q.noscript_start (mb b) g t
  noscript_start-m b K.the_html t = ap B.Done (Y.html-m h H b t)
  noscript_start-m b K.a_link t = Y.head_start-m h H b K.a_link t
  noscript_start-m b K.a_noframes t = Y.head_start-m h H b K.a_noframes t
  noscript_start-m b K.a_style t = Y.head_start-m h H b K.a_style t
  noscript_start-m b K.the_head t = refl
  noscript_start-m b K.a_noscript t = refl
  noscript_start-m b _ t = noscript_again b

  noscript_end-m : (b : B.Builder) (g : K.Group) → mo (Q.noscript_end b g) ≡ Q.noscript_end (mb b) g
  noscript_end-m b K.a_noscript = ap B.Done (noscript_closed-m b)
  noscript_end-m b K.a_break = noscript_again b
  noscript_end-m b _ = refl

  in_noscript-m : (b : B.Builder) (t : B.Token) → Keeps h H t → mo (Q.in_head_noscript_step b t) ≡ Q.in_head_noscript_step (mb b) t
  in_noscript-m b (B.a_character c) s = or_insert (λ (c : B.Builder). B.Again (Q.noscript_closed c)) b c (noscript_again b)
  in_noscript-m b (B.a_comment own) s = ap B.Done (R.comment-m h H own b s)
  in_noscript-m b (B.a_doctype own) s = refl
  in_noscript-m b (B.a_start g t closes) s = noscript_start-m b g t
  in_noscript-m b (B.an_end g name) s = noscript_end-m b g
  in_noscript-m b B.end_of_file s = noscript_again b

  body_implied-m : (b : B.Builder) → mo (Q.body_implied b) ≡ Q.body_implied (mb b)
  body_implied-m b = ap (λ (c : B.Builder). B.Again (B.switch_to B.in_body c)) (R.implied_element-m h H (codes "body") b)

  after_head_start-m : (b : B.Builder) (g : K.Group) (t : Tag) → mo (Q.after_head_start b g t) ≡ Q.after_head_start (mb b) g t
  after_head_start-m b K.the_html t = ap B.Done (Y.html-m h H b t)
  after_head_start-m b K.the_body t = ap (λ (c : B.Builder). B.Done (B.switch_to B.in_body (B.frameset_not_ok c))) (R.insert-m h H t b)
  after_head_start-m b K.a_frameset t = ap (λ (c : B.Builder). B.Done (B.switch_to B.in_frameset c)) (R.insert-m h H t b)
  after_head_start-m b K.the_head t = refl
  after_head_start-m b g t = Y.part_or h H W.into_head g t b (Q.body_implied b) (Q.body_implied (mb b)) (body_implied-m b)

  after_head_end-m : (b : B.Builder) (g : K.Group) → mo (Q.after_head_end b g) ≡ Q.after_head_end (mb b) g
  after_head_end-m b K.a_template = ap B.Done (R.template_end-m h H b)
  after_head_end-m b g = ignore_or Q.body_implied b (Q.is_body_end g) (body_implied-m b)

  after_head-m : (b : B.Builder) (t : B.Token) → Keeps h H t → mo (Q.after_head_step b t) ≡ Q.after_head_step (mb b) t
  after_head-m b (B.a_character c) s = or_insert Q.body_implied b c (body_implied-m b)
  after_head-m b (B.a_comment own) s = ap B.Done (R.comment-m h H own b s)
  after_head-m b (B.a_doctype own) s = refl
  after_head-m b (B.a_start g t closes) s = after_head_start-m b g t
  after_head-m b (B.an_end g name) s = after_head_end-m b g
  after_head-m b B.end_of_file s = body_implied-m b

  text_closed-m : (b : B.Builder) → mb (Q.text_closed b) ≡ Q.text_closed (mb b)
  text_closed-m b = ap (B.switch_to b.original) (R.pop-m h H b)

  text-m : (b : B.Builder) (t : B.Token) → mo (Q.text_step b t) ≡ Q.text_step (mb b) t
  text-m b (B.a_character c) = ap B.Done (R.character-m h H c b)
  text-m b (B.a_comment own) = ap B.Done (text_closed-m b)
  text-m b (B.a_doctype own) = ap B.Done (text_closed-m b)
  text-m b (B.a_start g t closes) = ap B.Done (text_closed-m b)
  text-m b (B.an_end g name) = ap B.Done (text_closed-m b)
  text-m b B.end_of_file = ap B.Again (text_closed-m b)

  -- Outside of the body

  template_start-m : (b : B.Builder) (g : K.Group) (t : Tag) → mo (O.template_start b g t) ≡ O.template_start (mb b) g t
  template_start-m b K.a_base t = Y.head_start-m h H b K.a_base t
  template_start-m b K.a_link t = Y.head_start-m h H b K.a_link t
  template_start-m b K.a_noframes t = Y.head_start-m h H b K.a_noframes t
  template_start-m b K.a_script t = Y.head_start-m h H b K.a_script t
  template_start-m b K.a_style t = Y.head_start-m h H b K.a_style t
  template_start-m b K.a_template t = Y.head_start-m h H b K.a_template t
  template_start-m b K.a_title t = Y.head_start-m h H b K.a_title t
  template_start-m b _ t = refl

  template_end-m : (b : B.Builder) (g : K.Group) → mo (O.template_end b g) ≡ O.template_end (mb b) g
  template_end-m b K.a_template = ap B.Done (R.template_end-m h H b)
  template_end-m b _ = refl

  in_template-m : (b : B.Builder) (t : B.Token) → Keeps h H t → mo (O.in_template_step b t) ≡ O.in_template_step (mb b) t
  in_template-m b (B.a_start g t closes) s = template_start-m b g t
  in_template-m b (B.an_end g name) s = template_end-m b g
  in_template-m b (B.a_character c) s = in_body b (B.a_character c) s
  in_template-m b (B.a_comment own) s = in_body b (B.a_comment own) s
  in_template-m b (B.a_doctype own) s = in_body b (B.a_doctype own) s
  in_template-m b B.end_of_file s = in_body b B.end_of_file s

  after_body_start-m : (b : B.Builder) (g : K.Group) (t : Tag) → mo (O.after_body_start b g t) ≡ O.after_body_start (mb b) g t
  after_body_start-m b K.the_html t = ap B.Done (Y.html-m h H b t)
  after_body_start-m b _ t = refl

  after_body_end-m : (b : B.Builder) (g : K.Group) → mo (O.after_body_end b g) ≡ O.after_body_end (mb b) g
  after_body_end-m b K.the_html = ap B.Done (R.if-m h H _ _ b (B.switch_to B.after_after_body b) (mb b) (B.switch_to B.after_after_body (mb b)) refl refl refl)
  after_body_end-m b _ = refl

  white_in_body : (b : B.Builder) (c : ℕ) (f : B.Builder → B.Outcome) → mo (f b) ≡ f (mb b) →
      mo (if is_ascii_whitespace c then D.in_body_step b (B.a_character c) else f b) ≡ (if is_ascii_whitespace c then D.in_body_step (mb b) (B.a_character c) else f (mb b))
  white_in_body b c f e = R.if-o h H _ _ (D.in_body_step b (B.a_character c)) (f b) (D.in_body_step (mb b) (B.a_character c)) (f (mb b)) refl (in_body b (B.a_character c) tt) e

  after_body_step-m : (b : B.Builder) (t : B.Token) → Keeps h H t → mo (O.after_body_step b t) ≡ O.after_body_step (mb b) t
  after_body_step-m b (B.a_character c) s = white_in_body b c O.back_in_body refl
  after_body_step-m b (B.a_comment own) s = ap B.Done (R.comment_at-m h H (W.behind 1) own b s)
  after_body_step-m b (B.a_doctype own) s = refl
  after_body_step-m b (B.a_start g t closes) s = after_body_start-m b g t
  after_body_step-m b (B.an_end g name) s = after_body_end-m b g
  after_body_step-m b B.end_of_file s = refl

  frameset_start-m : (b : B.Builder) (g : K.Group) (t : Tag) → mo (O.frameset_start b g t) ≡ O.frameset_start (mb b) g t
  frameset_start-m b K.the_html t = ap B.Done (Y.html-m h H b t)
  frameset_start-m b K.a_frameset t = ap B.Done (R.insert-m h H t b)
  frameset_start-m b K.a_frame t = ap B.Done (R.alone-m h H t b)
  frameset_start-m b K.a_noframes t = Y.head_start-m h H b K.a_noframes t
  frameset_start-m b _ t = refl

  abbrev left_frameset : B.Builder → B.Builder
  left_frameset c = if B.is_fragment c || T.is_any (codes "frameset") (B.current_tag c) then c else B.switch_to B.after_frameset c

  left-m : (c : B.Builder) → mb (left_frameset c) ≡ left_frameset (mb c)
  left-m c =
      R.if-m h H _ _ c (B.switch_to B.after_frameset c) (mb c) (B.switch_to B.after_frameset (mb c))
      (ap (λ t. B.is_fragment c || T.is_any (codes "frameset") t) (R.current-m h H c)) refl refl

  frameset_closed-m : (b : B.Builder) → mb (O.frameset_closed b) ≡ O.frameset_closed (mb b)
  frameset_closed-m b = left-m (B.pop_current_node b) ∙ ap left_frameset (R.pop-m h H b)

  frameset_end-m : (b : B.Builder) (g : K.Group) → mb (O.frameset_end b g) ≡ O.frameset_end (mb b) g
  frameset_end-m b K.a_frameset =
      R.if-m h H _ _ b (O.frameset_closed b) (mb b) (O.frameset_closed (mb b))
      (is_only-m h H (W.elements b.path) ∙ ap B.is_only (elements-m h H b.path)) refl (frameset_closed-m b)
  frameset_end-m b _ = refl

  white_alone : (b : B.Builder) (c : ℕ) → mo (B.Done (if is_ascii_whitespace c then B.insert_character c b else b)) ≡ B.Done (if is_ascii_whitespace c then B.insert_character c (mb b) else mb b)
  white_alone b c = done_if _ _ (B.insert_character c) b refl (R.character-m h H c b)

  in_frameset-m : (b : B.Builder) (t : B.Token) → Keeps h H t → mo (O.in_frameset_step b t) ≡ O.in_frameset_step (mb b) t
  in_frameset-m b (B.a_character c) s = white_alone b c
  in_frameset-m b (B.a_comment own) s = ap B.Done (R.comment-m h H own b s)
  in_frameset-m b (B.a_doctype own) s = refl
  in_frameset-m b (B.a_start g t closes) s = frameset_start-m b g t
  in_frameset-m b (B.an_end g name) s = ap B.Done (frameset_end-m b g)
  in_frameset-m b B.end_of_file s = refl

  after_frameset_start-m : (b : B.Builder) (g : K.Group) (t : Tag) → mo (O.after_frameset_start b g t) ≡ O.after_frameset_start (mb b) g t
  after_frameset_start-m b K.the_html t = ap B.Done (Y.html-m h H b t)
  after_frameset_start-m b K.a_noframes t = Y.head_start-m h H b K.a_noframes t
  after_frameset_start-m b _ t = refl

  after_frameset_end-m : (b : B.Builder) (g : K.Group) → mb (O.after_frameset_end b g) ≡ O.after_frameset_end (mb b) g
  after_frameset_end-m b K.the_html = refl
  after_frameset_end-m b _ = refl

  after_frameset-m : (b : B.Builder) (t : B.Token) → Keeps h H t → mo (O.after_frameset_step b t) ≡ O.after_frameset_step (mb b) t
  after_frameset-m b (B.a_character c) s = white_alone b c
  after_frameset-m b (B.a_comment own) s = ap B.Done (R.comment-m h H own b s)
  after_frameset-m b (B.a_doctype own) s = refl
  after_frameset-m b (B.a_start g t closes) s = after_frameset_start-m b g t
  after_frameset-m b (B.an_end g name) s = ap B.Done (after_frameset_end-m b g)
  after_frameset-m b B.end_of_file s = refl

  after_after_body-m : (b : B.Builder) (t : B.Token) → Keeps h H t → mo (O.after_after_body_step b t) ≡ O.after_after_body_step (mb b) t
  after_after_body-m b (B.a_character c) s = white_in_body b c O.back_in_body refl
  after_after_body-m b (B.a_comment own) s = ap B.Done (R.comment_at-m h H (W.behind 0) own b s)
  after_after_body-m b (B.a_doctype own) s = refl
  after_after_body-m b (B.a_start g t closes) s = after_body_start-m b g t
  after_after_body-m b (B.an_end g name) s = refl
  after_after_body-m b B.end_of_file s = refl

  after_after_frameset-m : (b : B.Builder) (t : B.Token) → Keeps h H t → mo (O.after_after_frameset_step b t) ≡ O.after_after_frameset_step (mb b) t
  after_after_frameset-m b (B.a_character c) s = white_in_body b c B.Done refl
  after_after_frameset-m b (B.a_comment own) s = ap B.Done (R.comment_at-m h H (W.behind 0) own b s)
  after_after_frameset-m b (B.a_doctype own) s = refl
  after_after_frameset-m b (B.a_start g t closes) s = after_frameset_start-m b g t
  after_after_frameset-m b (B.an_end g name) s = refl
  after_after_frameset-m b B.end_of_file s = refl

  -- The dispatcher

  mode-m : (m : B.Mode) (b : B.Builder) (t : B.Token) → Keeps h H t → mo (M.mode_step m b t) ≡ M.mode_step m (mb b) t
  mode-m B.initial b t s = initial-m b t s
  mode-m B.before_html b t s = before_html-m b t s
  mode-m B.before_head b t s = before_head-m b t s
  mode-m B.in_head b t s = in_head-m b t s
  mode-m B.in_head_noscript b t s = in_noscript-m b t s
  mode-m B.after_head b t s = after_head-m b t s
  mode-m B.in_body b t s = in_body b t s
  mode-m B.text_mode b t s = text-m b t
  mode-m B.in_table b t s = in_table-m b t s
  mode-m B.in_table_text b t s = in_table_text-m b t
  mode-m B.in_caption b t s = in_caption-m b t s
  mode-m B.in_column_group b t s = in_columns-m b t s
  mode-m B.in_table_body b t s = in_table_body-m b t s
  mode-m B.in_row b t s = in_row-m b t s
  mode-m B.in_cell b t s = in_cell-m b t s
  mode-m B.in_template b t s = in_template-m b t s
  mode-m B.after_body b t s = after_body_step-m b t s
  mode-m B.in_frameset b t s = in_frameset-m b t s
  mode-m B.after_frameset b t s = after_frameset-m b t s
  mode-m B.after_after_body b t s = after_after_body-m b t s
  mode-m B.after_after_frameset b t s = after_after_frameset-m b t s

  html_step-m : (b : B.Builder) (t : B.Token) → Keeps h H t → mo (M.html_step b t) ≡ M.html_step (mb b) t
  html_step-m b t s = mode-m b.mode b t s

  broken-m : (b : B.Builder) → mb (M.broken_out b) ≡ M.broken_out (mb b)
  broken-m b = ap (B.with_path b) (popped_to-m h H M.is_html_place (λ _. refl) b.path)

  foreign_character-m : (c : ℕ) (b : B.Builder) → mb (M.foreign_character c b) ≡ M.foreign_character c (mb b)
  foreign_character-m c b =
      R.if-m h H _ _ (B.insert_bytes replacement b) _ (B.insert_bytes replacement (mb b)) _ refl (R.bytes-m h H replacement b)
      (R.if-m h H _ _ (B.insert_character c b) _ (B.insert_character c (mb b)) _ refl (R.character-m h H c b) (ap B.frameset_not_ok (R.character-m h H c b)))

  foreign_start-m : (b : B.Builder) (g : K.Group) (t : Tag) (closes : Bool) → mo (M.foreign_start b g t closes) ≡ M.foreign_start (mb b) g t closes
  foreign_start-m b g t closes =
      R.if-o h H _ _ (M.html_step (M.broken_out b) (B.a_start g t closes)) _ (M.html_step (M.broken_out (mb b)) (B.a_start g t closes)) _ refl
      (html_step-m (M.broken_out b) (B.a_start g t closes) tt ∙ ap (λ (c : B.Builder). M.html_step c (B.a_start g t closes)) (broken-m b))
      (ap B.Done (Y.foreign-m h H (B.adjusted_current_node b).space (record t { name = J.foreign_name (B.adjusted_current_node b).space t.name }) closes b
      ∙ ap (λ (own : Tag). J.insert_foreign_element own.space (record t { name = J.foreign_name own.space t.name }) closes (mb b)) (R.adjusted-m h H b)))

  found-m : (name : List ℕ) (fs : List W.Frame) → M.found_in name fs ≡ M.found_in name (mp h H fs)
  found-m name [] = refl
  found-m name (f ∷ []) = refl
  found-m name (f ∷ g ∷ fs) =
      ap (λ (x : M.Found). if bytes_eq (map to_ascii_lowercase f.tag.name) name then M.the_frame f.number else if T.is_html g.tag then M.by_mode else x)
      (found-m name (g ∷ fs))

  foreign_end_at-m : (found : M.Found) (b : B.Builder) (g : K.Group) (name : List ℕ) → mo (M.foreign_end_at found b g name) ≡ M.foreign_end_at found (mb b) g name
  foreign_end_at-m (M.the_frame k) b g name = ap (λ (p : W.Path). B.Done (B.with_path b p)) (popped_through-m h H (W.has_number k) (λ _. refl) b.path)
  foreign_end_at-m M.by_mode b g name = html_step-m b (B.an_end g name) tt
  foreign_end_at-m M.nothing b g name = refl

  broken_end : (b : B.Builder) (g : K.Group) (name : List ℕ) → mo (M.html_step (M.broken_out b) (B.an_end g name)) ≡ M.html_step (M.broken_out (mb b)) (B.an_end g name)
  broken_end b g name = html_step-m (M.broken_out b) (B.an_end g name) tt ∙ ap (λ (c : B.Builder). M.html_step c (B.an_end g name)) (broken-m b)

  foreign_end-m : (b : B.Builder) (g : K.Group) (name : List ℕ) → mo (M.foreign_end b g name) ≡ M.foreign_end (mb b) g name
  foreign_end-m b K.a_break name = broken_end b K.a_break name
  foreign_end-m b K.a_paragraph name = broken_end b K.a_paragraph name
  foreign_end-m b g name =
      foreign_end_at-m (M.found_in name (W.elements b.path)) b g name
      ∙ ap (λ x. M.foreign_end_at x (mb b) g name) (found-m name (W.elements b.path) ∙ ap (M.found_in name) (elements-m h H b.path))

  foreign_step-m : (b : B.Builder) (t : B.Token) → Keeps h H t → mo (M.foreign_step b t) ≡ M.foreign_step (mb b) t
  foreign_step-m b (B.a_character c) s = ap B.Done (foreign_character-m c b)
  foreign_step-m b (B.a_comment own) s = ap B.Done (R.comment-m h H own b s)
  foreign_step-m b (B.a_doctype own) s = refl
  foreign_step-m b (B.a_start g t closes) s = foreign_start-m b g t closes
  foreign_step-m b (B.an_end g name) s = foreign_end-m b g name
  foreign_step-m b B.end_of_file s = html_step-m b B.end_of_file s

  dispatch-m : (t : B.Token) (b : B.Builder) → Keeps h H t → mo (M.dispatch t b) ≡ M.dispatch t (mb b)
  dispatch-m t b s =
      R.if-o h H _ _ (M.html_step b t) (M.foreign_step b t) (M.html_step (mb b) t) (M.foreign_step (mb b) t)
      (ap (λ own. M.is_html_content own t) (R.adjusted-m h H b)) (html_step-m b t s) (foreign_step-m b t s)

  -- Tokens

  length-m : (p : W.Path) → length p ≡ length (mp h H p)
  length-m [] = refl
  length-m (f ∷ p) = ap suc (length-m p)

  abbrev pub Keep : ℕ → List B.Token → Type 0
  Keep n [] = ⊤
  Keep n (t ∷ ts) = Keeps h H (M.numbered n t) × Keep (M.marks_behind n t) ts

  count-m : (b : B.Builder) → mb (M.count_token b) ≡ M.count_token (mb b)
  count-m b =
      let taken : B.Builder = record b { tokens = suc b.tokens } in
      let v : Bool = nat_lt taken.excess (M.excess_of taken) in
      R.if-m h H v v (record taken { excess = M.excess_of taken }) taken (record (mb taken) { excess = M.excess_of taken }) (mb taken) refl refl refl

  taken-m : (b : B.Builder) (t : B.Token) → Keeps h H (M.numbered b.marks t) →
      mb (if b.skips && M.is_line_feed t then M.calm b else B.repeated (M.bound b) (M.dispatch (M.numbered b.marks t)) (B.Again (M.calm b)))
      ≡ (if b.skips && M.is_line_feed t then M.calm (mb b) else B.repeated (M.bound (mb b)) (M.dispatch (M.numbered b.marks t)) (B.Again (M.calm (mb b))))
  taken-m b t s =
      R.if-m h H _ _ (M.calm b) _ (M.calm (mb b)) _ refl refl
      (R.repeated-m h H (M.bound b) (M.dispatch (M.numbered b.marks t)) (M.dispatch (M.numbered b.marks t)) (B.Again (M.calm b)) (λ c. dispatch-m (M.numbered b.marks t) c s)
      ∙ ap (λ (n : ℕ). B.repeated (8 + 2 * n) (M.dispatch (M.numbered b.marks t)) (B.Again (M.calm (mb b)))) (length-m b.path))

  pub token-m : (b : B.Builder) (t : B.Token) → Keeps h H (M.numbered b.marks t) → mb (M.token_done b t) ≡ M.token_done (mb b) t
  token-m b t s =
      let x : B.Builder = if b.skips && M.is_line_feed t then M.calm b else B.repeated (M.bound b) (M.dispatch (M.numbered b.marks t)) (B.Again (M.calm b)) in
      ap (λ (c : B.Builder). record c { marks = M.marks_behind b.marks t }) (count-m x ∙ ap M.count_token (taken-m b t s))

  -- what tokens do to a builder whose nodes are changed is what they do to it, changed
  pub tokens-m : (ts : List B.Token) (b : B.Builder) → Keep b.marks ts → mb (M.tokens_done b ts) ≡ M.tokens_done (mb b) ts
  tokens-m [] b k = refl
  tokens-m (t ∷ ts) b k = tokens-m ts (M.token_done b t) k.1 ∙ ap (λ c. M.tokens_done c ts) (token-m b t k.0)
