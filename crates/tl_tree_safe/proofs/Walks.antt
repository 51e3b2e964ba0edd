-- A walk over the rows of trees writes what one pass over the trees does.
use Rattle.std.proofs.Common.{Bool, List, None, Option, Some, [], add-one, add-zero, ap, ap₂, append-nil, append_assoc, arith, drop, false, if◌then◌else◌, length, not, refl, subst, suc, sym, true, ℕ, ◌+◌, ◌&&◌, ◌++◌, ◌<◌, ◌∙◌, ◌≡◌, ◌≤◌, ◌∷◌}
use Rattle.std.specs.List.{filter}
use Rattle.std.specs.Prelude.{slice_get}
use Rattle.tl_dom_spec.specs.HtmlForest.{HtmlForest, comment, doctype, element, has_contents, no_trees, text}
use Rattle.tl_dom_spec.specs.Lawful as L
use Rattle.tl_dom_spec.specs.Marks.{Marked}
use Rattle.tl_dom_spec.specs.Tags.{Tag, is_html}
use Rattle.tl_html_print.proofs.Printing.{row_here, rows_behind}
use Rattle.tl_html_print.specs.Serialized.{end_tag, escaped, start_tag}
use Rattle.tl_safe_fit.specs.Kinds
use Rattle.tl_safe_fit.specs.Kinds.{kind_of}
use Rattle.tl_safe_fit.specs.Words.{is_among}
use Rattle.tl_safe_fit.specs.declared.kinds.Kind.{Kind}
use Rattle.tl_spec.specs.Lex.ByteClass.{is_void}
use Rattle.tl_tree.proofs.RowLaws.{contents-length, rows-length}
use Rattle.tl_tree.specs.Rows.{Node, Row, a_comment, a_doctype, a_text, an_element, contents, contents_count, contents_rows, lone_row, row_count, rows_from, rows_of}
use Rattle.tl_tree_safe.proofs.LevelFacts.{AreListed, flow_level, preformatted_kind, room_read, void_kind}
use Rattle.tl_tree_safe.proofs.Passes.{void_is}
use Rattle.tl_tree_safe.specs.Fitted.{is_read}
use Rattle.tl_tree_safe.specs.Inner.Levels.{level_of, names_of}
use Rattle.tl_tree_safe.specs.Inner.Pass.{Written, element_pass, first_said, followed, part_pass, pass, passed, place_pass, text_pass, text_said, unchanged}
use Rattle.tl_tree_safe.specs.Characters.{cleaned}
use Rattle.tl_tree_safe.specs.Kept.{goes, kept_tag, part_of, stays, unwrapped}
use Rattle.tl_tree_safe.specs.Lists.{ListedWords, lists_plain_names, opaque_names}
use Rattle.tl_tree_spec.specs.Groups.{group}
use Rattle.tl_tree_spec.specs.HtmlForest.{is_empty}
use Rattle.tl_tree_spec.specs.Stays.{is_preformatted, may_be_read}
use Rattle.tl_tree_safe.proofs.WalkSteps.{StaysOpen, behind_is, end_of_name, if-false, if-true, is_there, next_entered, next_passed, none_ends, none_left, one_ends, walk_more, walk_none, written_is}
use Rattle.tl_tree_safe.specs.Inner.Walk.{Spot, behind_element, behind_node, behind_row, end_written, fate_of, fate_written, is_passed, is_passed_node, listed_fate, name_end, next_row, node_written, row_written, walked, walked_from}
use Rattle.tl_tree_safe.specs.declared.fate.Fate.{Fate}
use Rattle.tl_tree_safe.specs.declared.fate.Fate.TheVariants.{Goes, Stays, Unwrapped}
use Rattle.tl_tree_safe.specs.declared.writer.Open.{Open}

abbrev spot_at : List (List ℕ) → Bool → List Open → Spot
spot_at around fresh opens = record { level = level_of around; fresh = fresh; opens = opens }

module _ (p : ListedWords) (plain : lists_plain_names p ≡ true) (R : List Row) where
  -- a row where no element ends
  row-walked : (n to : ℕ) (row : Row) (around : List (List ℕ)) (fresh : Bool) (opens : List Open) → slice_get R n ≡ Some row → StaysOpen to opens → n < to →
      walked_from p R n (spot_at around fresh opens)
      ≡ node_written p (spot_at around fresh opens) row.node
      ++ walked_from p R (next_row p R (spot_at around fresh opens) n) (behind_node p n row.end (spot_at around fresh opens) row.node)
  row-walked n to row around fresh opens at o l =
      let s = spot_at around fresh opens in
      walk_more p R n s (is_there R n row at)
      ∙ ap₂ (λ (x : List ℕ) (t : Spot). x ++ (row_written p R t n ++ walked_from p R (next_row p R t n) (behind_row p R t n)))
      (none_ends R n to opens o l) (none_left n to (level_of around) fresh opens o l)
      ∙ ap₂ (λ (x : List ℕ) (t : Spot). x ++ walked_from p R (next_row p R s n) t) (written_is p R n row at s) (behind_is p R n row at s)

  -- where only the next row is gone to, or the one behind what is below
  entered-walked : (n to : ℕ) (row : Row) (around : List (List ℕ)) (fresh : Bool) (opens : List Open) → slice_get R n ≡ Some row → StaysOpen to opens → n < to →
      is_passed_node p (spot_at around fresh opens) row.node ≡ false →
      walked_from p R n (spot_at around fresh opens)
      ≡ node_written p (spot_at around fresh opens) row.node ++ walked_from p R (n + 1) (behind_node p n row.end (spot_at around fresh opens) row.node)
  entered-walked n to row around fresh opens at o l h =
      let s = spot_at around fresh opens in
      row-walked n to row around fresh opens at o l
      ∙ ap (λ k. node_written p s row.node ++ walked_from p R k (behind_node p n row.end s row.node)) (next_entered p R n row at s h)

  passed-walked : (n to : ℕ) (row : Row) (around : List (List ℕ)) (fresh : Bool) (opens : List Open) → slice_get R n ≡ Some row → StaysOpen to opens → n < to → n < row.end →
      is_passed_node p (spot_at around fresh opens) row.node ≡ true →
      walked_from p R n (spot_at around fresh opens)
      ≡ node_written p (spot_at around fresh opens) row.node ++ walked_from p R row.end (behind_node p n row.end (spot_at around fresh opens) row.node)
  passed-walked n to row around fresh opens at o l e h =
      let s = spot_at around fresh opens in
      row-walked n to row around fresh opens at o l
      ∙ ap (λ k. node_written p s row.node ++ walked_from p R k (behind_node p n row.end s row.node)) (next_passed p R n row at s h e)

  -- what is written from a row on, where trees stand
  abbrev goes_on : Written → ℕ → List (List ℕ) → List Open → List ℕ
  goes_on w n around opens = w.bytes ++ walked_from p R n (spot_at around w.fresh opens)

  abbrev Walks : HtmlForest → Type 0
  Walks f = (n : ℕ) (parent : Option ℕ) (post : List Row) (around : List (List ℕ)) (fresh : Bool) (opens : List Open) →
      drop n R ≡ rows_from n parent f ++ post → AreListed p around → StaysOpen (n + row_count f) opens →
      walked_from p R n (spot_at around fresh opens) ≡ goes_on (pass p (names_of around) fresh f) (n + row_count f) around opens

  nothing-walks : Walks no_trees
  nothing-walks n parent post around fresh opens e a o = ap (λ k. walked_from p R k (spot_at around fresh opens)) (sym (add-zero n))

  -- trees behind what is written
  then-more : (more : HtmlForest) → Walks more → (w : Written) (n last : ℕ) (parent : Option ℕ) (post : List Row) (around : List (List ℕ)) (opens : List Open) →
      drop n R ≡ rows_from n parent more ++ post → AreListed p around → StaysOpen last opens → n + row_count more ≡ last →
      goes_on w n around opens ≡ goes_on (followed w (λ now. pass p (names_of around) now more)) last around opens
  then-more more later w n last parent post around opens e a o place =
      let v = pass p (names_of around) w.fresh more in
      ap (λ x. w.bytes ++ x)
      (later n parent post around w.fresh opens e a (subst (λ k. StaysOpen k opens) (sym place) o)
      ∙ ap (λ k. goes_on v k around opens) place)
      ∙ sym (append_assoc w.bytes v.bytes (walked_from p R last (spot_at around v.fresh opens)))

  -- a node without others below it, of which this is written
  lone-walks : (node : Node) (more : HtmlForest) (w : Bool → List (List ℕ) → Written) → Walks more →
      ((around : List (List ℕ)) (fresh : Bool) (opens : List Open) → is_passed_node p (spot_at around fresh opens) node ≡ false) →
      ((around : List (List ℕ)) (fresh : Bool) (opens : List Open) → AreListed p around → node_written p (spot_at around fresh opens) node ≡ (w fresh around).bytes) →
      ((around : List (List ℕ)) (fresh : Bool) (opens : List Open) (n end : ℕ) → AreListed p around → behind_node p n end (spot_at around fresh opens) node ≡ spot_at around (w fresh around).fresh opens) →
      (n : ℕ) (parent : Option ℕ) (post : List Row) (around : List (List ℕ)) (fresh : Bool) (opens : List Open) →
      drop n R ≡ lone_row n parent node ∷ (rows_from (n + 1) parent more ++ post) → AreListed p around → StaysOpen (n + (1 + row_count more)) opens →
      walked_from p R n (spot_at around fresh opens)
      ≡ goes_on (followed (w fresh around) (λ now. pass p (names_of around) now more)) (n + (1 + row_count more)) around opens
  lone-walks node more w later is_one written behind n parent post around fresh opens e a o =
      let row = lone_row n parent node in
      let at = row_here R n row (rows_from (n + 1) parent more ++ post) e in
      let place : n + 1 + row_count more ≡ n + (1 + row_count more) = omega arith in
      entered-walked n (n + (1 + row_count more)) row around fresh opens at.0 o (omega arith) (is_one around fresh opens)
      ∙ ap₂ (λ (x : List ℕ) (s : Spot). x ++ walked_from p R (n + 1) s) (written around fresh opens a) (behind around fresh opens n row.end a)
      ∙ then-more more later (w fresh around) (n + 1) (n + (1 + row_count more)) parent post around opens (ap (λ k. drop k R) (add-one n) ∙ at.1) a o place

  -- where the trees below an element begin
  below-walks : (below : HtmlForest) → Walks below → (b : Bool) (n : ℕ) (post : List Row) (around : List (List ℕ)) (fresh : Bool) (opens : List Open) →
      drop (suc n) R ≡ contents_rows b n (n + contents_count b + 1 + row_count below) ++ (rows_from (n + contents_count b + 1) (Some (n + contents_count b)) below ++ post) →
      AreListed p around → StaysOpen (n + contents_count b + 1 + row_count below) opens →
      walked_from p R (n + 1) (spot_at around fresh opens)
      ≡ goes_on (pass p (names_of around) fresh below) (n + contents_count b + 1 + row_count below) around opens
  below-walks below inner false n post around fresh opens e a o =
      let from : n + 0 + 1 ≡ n + 1 = ap (λ k. k + 1) (add-zero n) in
      ap (λ k. walked_from p R k (spot_at around fresh opens)) (sym from)
      ∙ inner (n + 0 + 1) (Some (n + 0)) post around fresh opens (ap (λ k. drop k R) (from ∙ add-one n) ∙ e) a o
  below-walks below inner true n post around fresh opens e a o =
      let to = n + 1 + 1 + row_count below in
      let row : Row = record { node = contents; parent = Some n; end = to } in
      let stand : drop (n + 1) R ≡ row ∷ (rows_from (n + 1 + 1) (Some (n + 1)) below ++ post) = ap (λ k. drop k R) (add-one n) ∙ e in
      let at = row_here R (n + 1) row (rows_from (n + 1 + 1) (Some (n + 1)) below ++ post) stand in
      entered-walked (n + 1) to row around fresh opens at.0 o (omega arith) refl
      ∙ inner (n + 1 + 1) (Some (n + 1)) post around fresh opens (ap (λ k. drop k R) (add-one (n + 1)) ∙ at.1) a o

  -- An element

  -- what is written of an element whose rows end here
  module _ (tag : Tag) (below : HtmlForest) (inner : Walks below) (n : ℕ) (parent : Option ℕ) (back : List Row) where
    abbrev to : ℕ
    to = n + contents_count (has_contents tag) + 1 + row_count below

    abbrev own_row : Row
    own_row = record { node = an_element tag; parent = parent; end = to }

    abbrev below_rows : List Row
    below_rows = contents_rows (has_contents tag) n to ++ (rows_from (n + contents_count (has_contents tag) + 1) (Some (n + contents_count (has_contents tag))) below ++ back)

    module _ (at : slice_get R n ≡ Some own_row) (e : drop (suc n) R ≡ below_rows) (around : List (List ℕ)) (fresh : Bool) (opens : List Open) (a : AreListed p around) (o : StaysOpen to opens) where
      abbrev here : Spot
      here = spot_at around fresh opens

      abbrev Fares : Fate → Written → Type 0
      Fares fate w = fate_of p (level_of around) tag ≡ fate → walked_from p R n here ≡ goes_on w to around opens

      goes-fares : Fares Goes (unchanged fresh)
      goes-fares is =
          passed-walked n to own_row around fresh opens at o (omega arith) (omega arith) (ap is_passed is)
          ∙ ap (λ (f : Fate). fate_written (start_tag (kept_tag p tag)) f ++ walked_from p R to (behind_element n to f here)) is

      unwrapped-fares : Fares Unwrapped (pass p (names_of around) fresh below)
      unwrapped-fares is =
          entered-walked n to own_row around fresh opens at o (omega arith) (ap is_passed is)
          ∙ ap (λ (f : Fate). fate_written (start_tag (kept_tag p tag)) f ++ walked_from p R (n + 1) (behind_element n to f here)) is
          ∙ below-walks below inner (has_contents tag) n back around fresh opens e a o

      -- one that is written

      module _ (html : is_html tag ≡ true) (listed : is_among p.tags tag.name ≡ true) (read : is_read (names_of around) tag.name ≡ true) where
        abbrev k : Kind
        k = kind_of tag.name

        void-fares : is_void tag.name ≡ true → Fares (Stays k) (record { bytes = start_tag (kept_tag p tag) ++ []; fresh = false })
        void-fares void is =
            let v = sym (void_kind p plain tag.name listed) ∙ void in
            passed-walked n to own_row around fresh opens at o (omega arith) (omega arith) (ap is_passed is ∙ v)
            ∙ ap (λ (f : Fate). fate_written (start_tag (kept_tag p tag)) f ++ walked_from p R to (behind_element n to f here)) is
            ∙ ap₂ (λ (x : List ℕ) (s : Spot). x ++ walked_from p R to s) (sym (append-nil (start_tag (kept_tag p tag)))) (if-true (Kinds.is_void_kind k) _ _ v)

        -- its end tag
        ended-so : is_void tag.name ≡ false → end_written R n ≡ end_tag (kept_tag p tag)
        ended-so other =
            end_of_name p R n own_row at
            ∙ sym (if-false (L.is_void (kept_tag p tag)) [] (name_end tag.name) (void_is (names_of around) (kept_tag p tag) html read ∙ other))

        open-fares : is_void tag.name ≡ false → Fares (Stays k)
            (record {
              bytes = start_tag (kept_tag p tag) ++ ((pass p (tag.name ∷ names_of around) (is_preformatted (group tag.name)) below).bytes ++ end_tag (kept_tag p tag));
              fresh = false;
            })
        open-fares other is =
            let v = sym (void_kind p plain tag.name listed) ∙ other in
            let own : Open = record { number = n; end = to; outer = level_of around } in
            let w = pass p (tag.name ∷ names_of around) (is_preformatted (group tag.name)) below in
            let start = start_tag (kept_tag p tag) in
            let rest = walked_from p R to (spot_at around false opens) in
            entered-walked n to own_row around fresh opens at o (omega arith) (ap is_passed is ∙ v)
            ∙ ap (λ (f : Fate). fate_written (start_tag (kept_tag p tag)) f ++ walked_from p R (n + 1) (behind_element n to f here)) is
            ∙ ap (λ (s : Spot). start ++ walked_from p R (n + 1) s) (if-false (Kinds.is_void_kind k) _ _ v)
            ∙ ap (λ (x : Bool). start ++ walked_from p R (n + 1) (spot_at (tag.name ∷ around) x (own ∷ opens))) (sym (preformatted_kind p plain tag.name listed))
            ∙ ap (λ x. start ++ x)
            (below-walks below inner (has_contents tag) n back (tag.name ∷ around) (is_preformatted (group tag.name)) (own ∷ opens) e (listed, a) (omega arith)
            ∙ ap (λ x. w.bytes ++ x)
            (one_ends p R to (level_of (tag.name ∷ around)) w.fresh own opens (omega arith)
            ∙ ap (λ x. x ++ rest) (ended-so other)))
            ∙ regroup start w.bytes (end_tag (kept_tag p tag)) rest
          where
            regroup : (x y z t : List ℕ) → x ++ (y ++ (z ++ t)) ≡ (x ++ (y ++ z)) ++ t
            regroup x y z t = sym (simp append_assoc)

      -- what becomes of it

      abbrev fate_by : Bool → Bool → Bool → Fate
      fate_by h l q = if not h then Goes else if l then listed_fate (level_of around) (kind_of tag.name) else if q then Goes else Unwrapped

      fate-is : (h l q : Bool) → is_html tag ≡ h → is_among p.tags tag.name ≡ l → is_among opaque_names tag.name ≡ q → fate_of p (level_of around) tag ≡ fate_by h l q
      fate-is h l q a b c =
          ap (λ v. fate_by v (is_among p.tags tag.name) (is_among opaque_names tag.name)) a
          ∙ ap₂ (λ v w. fate_by h v w) b c

      abbrev listed_by : Bool → Bool → Fate
      listed_by r v = if r then Stays (kind_of tag.name) else if v then Goes else Unwrapped

      listed-is : (r v : Bool) → is_among p.tags tag.name ≡ true → is_read (names_of around) tag.name ≡ r → is_void tag.name ≡ v → listed_fate (level_of around) (kind_of tag.name) ≡ listed_by r v
      listed-is r v l b c = ap₂ listed_by (room_read p plain around tag.name a l ∙ b) (sym (void_kind p plain tag.name l) ∙ c)

      abbrev within : Bool → Written
      within now = pass p (tag.name ∷ names_of around) now below

      abbrev in_place : Bool → Written
      in_place now = pass p (names_of around) now below

      -- a listed one
      listed-fares : is_html tag ≡ true → is_among p.tags tag.name ≡ true → (r v : Bool) → is_read (names_of around) tag.name ≡ r → is_void tag.name ≡ v → fate_of p (level_of around) tag ≡ listed_by r v →
          walked_from p R n here ≡ goes_on (if r then element_pass (kept_tag p tag) within else place_pass tag fresh in_place) to around opens
      listed-fares h l true true er ev is = void-fares h l er ev is ∙ ap (λ (w : Written). goes_on w to around opens) (sym (if-true (is_void tag.name) _ _ ev))
      listed-fares h l true false er ev is = open-fares h l er ev is ∙ ap (λ (w : Written). goes_on w to around opens) (sym (if-false (is_void tag.name) _ _ ev))
      listed-fares h l false true er ev is = goes-fares is ∙ ap (λ (w : Written). goes_on w to around opens) (sym (if-true (is_void tag.name) _ _ ev))
      listed-fares h l false false er ev is = unwrapped-fares is ∙ ap (λ (w : Written). goes_on w to around opens) (sym (if-false (is_void tag.name) _ _ ev))

      fares-by : (h l q : Bool) → is_html tag ≡ h → is_among p.tags tag.name ≡ l → is_among opaque_names tag.name ≡ q →
          walked_from p R n here ≡ goes_on (part_pass p (names_of around) fresh tag within in_place (if not h then goes else if l then stays else if q then goes else unwrapped)) to around opens
      fares-by false l q eh el eq = goes-fares (fate-is false l q eh el eq)
      fares-by true true q eh el eq =
          listed-fares eh el (is_read (names_of around) tag.name) (is_void tag.name) refl refl
          (fate-is true true q eh el eq ∙ listed-is (is_read (names_of around) tag.name) (is_void tag.name) el refl refl)
      fares-by true false true eh el eq = goes-fares (fate-is true false true eh el eq)
      fares-by true false false eh el eq = unwrapped-fares (fate-is true false false eh el eq)

      element-fares : walked_from p R n here
          ≡ goes_on (part_pass p (names_of around) fresh tag within in_place (part_of p tag)) to around opens
      element-fares = fares-by (is_html tag) (is_among p.tags tag.name) (is_among opaque_names tag.name) refl refl refl

  earlier : (to last : ℕ) (opens : List Open) → StaysOpen last opens → to ≤ last → StaysOpen to opens
  earlier to last [] h l = tt
  earlier to last (o ∷ opens) h l = omega arith

  element-walks : (tag : Tag) (below more : HtmlForest) → Walks below → Walks more → Walks (element tag below more)
  element-walks tag below more inner later n parent post around fresh opens e a o =
      let b = has_contents tag in
      let to = n + contents_count b + 1 + row_count below in
      let last = n + (1 + contents_count b + row_count below + row_count more) in
      let row : Row = record { node = an_element tag; parent = parent; end = to } in
      let place : to + row_count more ≡ last = omega arith in
      let front = contents_rows b n to in
      let mid = rows_from (n + contents_count b + 1) (Some (n + contents_count b)) below in
      let back = rows_from to parent more in
      let at = row_here R n row ((front ++ (mid ++ back)) ++ post) e in
      let regrouped : drop (suc n) R ≡ front ++ (mid ++ (back ++ post)) =
      at.1 ∙ append_assoc front (mid ++ back) post ∙ ap (λ x. front ++ x) (append_assoc mid back post) in
      let count : suc n + length front + length mid ≡ to = (let c = contents-length b n to in let d = rows-length (n + contents_count b + 1) (Some (n + contents_count b)) below in omega (arith, c, d)) in
      let stand : drop to R ≡ back ++ post = ap (λ k. drop k R) (sym count) ∙ rows_behind mid (back ++ post) R (suc n + length front) (rows_behind front (mid ++ (back ++ post)) R (suc n) regrouped) in
      let w = part_pass p (names_of around) fresh tag (λ now. pass p (tag.name ∷ names_of around) now below) (λ now. pass p (names_of around) now below) (part_of p tag) in
      element-fares tag below inner n parent (back ++ post) at.0 regrouped around fresh opens a (earlier to last opens o (omega arith))
      ∙ then-more more later w to last parent post around opens stand a o place

  -- Trees

  text-written : (own : Marked (List ℕ)) (around : List (List ℕ)) (fresh : Bool) → AreListed p around →
      text_said (names_of around) own.said ≡ filter (may_be_read (level_of around).path.flow) (cleaned own.said)
  text-written own around fresh a = ap (λ v. filter (may_be_read v) (cleaned own.said)) (flow_level p plain around a)

  trees-walk : (f : HtmlForest) → Walks f
  trees-walk no_trees = nothing-walks
  trees-walk (text own more) =
      lone-walks (a_text own) more (λ fresh around. text_pass (names_of around) fresh own.said) (trees-walk more)
      (λ around fresh opens. refl)
      (λ around fresh opens a. ap (λ x. escaped false (first_said fresh x)) (sym (text-written own around fresh a)))
      (λ around fresh opens n end a. ap (λ x. spot_at around (fresh && is_empty (first_said fresh x)) opens) (sym (text-written own around fresh a)))
  trees-walk (comment own more) =
      lone-walks (a_comment own) more (λ fresh around. unchanged fresh) (trees-walk more) (λ around fresh opens. refl) (λ around fresh opens a. refl) (λ around fresh opens n end a. refl)
  trees-walk (doctype own more) =
      lone-walks (a_doctype own) more (λ fresh around. unchanged fresh) (trees-walk more) (λ around fresh opens. refl) (λ around fresh opens a. refl) (λ around fresh opens n end a. refl)
  trees-walk (element tag below more) = element-walks tag below more (trees-walk below) (trees-walk more)

pub walk_passes : (p : ListedWords) (trees : HtmlForest) → lists_plain_names p ≡ true → walked p (rows_of trees) ≡ passed p trees
walk_passes p trees plain =
    let R = rows_of trees in
    let w = pass p (names_of []) false trees in
    let all = rows-length 0 None trees in
    trees-walk p plain R trees 0 None [] [] false [] (sym (append-nil R)) tt tt
    ∙ ap (λ x. w.bytes ++ x) (walk_none p R (0 + row_count trees) (spot_at [] w.fresh []) (omega (arith, all)))
    ∙ append-nil w.bytes
