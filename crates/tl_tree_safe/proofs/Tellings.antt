-- A walk over the rows of trees tells what goes of the trees.
use Rattle.std.proofs.Common.{Bool, List, None, Option, Some, [], add-one, add-zero, ap, ap₂, append-nil, append_assoc, arith, drop, false, if◌then◌else◌, inl, inr, length, nat_le, nat_lt, not, refl, subst, suc, sym, true, ℕ, ◌+◌, ◌&&◌, ◌++◌, ◌<◌, ◌∙◌, ◌≡◌, ◌≤◌, ◌∷◌}
use Rattle.std.specs.List.{filter}
use Rattle.std.proofs.lemmas.Bool.{cases_Bool, le-leb, ltb-false, ltb-true}
use Rattle.std.specs.Prelude.{slice_get}
use Rattle.tl_dom_spec.specs.HtmlForest.{HtmlForest, comment, doctype, element, has_contents, no_trees, text}
use Rattle.tl_dom_spec.specs.Marks.{Marked}
use Rattle.tl_dom_spec.specs.Tags.{Tag, is_html}
use Rattle.tl_html_print.proofs.Printing.{row_here, rows_behind}
use Rattle.tl_safe_fit.specs.Kinds
use Rattle.tl_safe_fit.specs.Kinds.{kind_of}
use Rattle.tl_safe_fit.specs.Words.{is_among}
use Rattle.tl_safe_fit.specs.declared.kinds.Kind.{Kind}
use Rattle.tl_safe_fit.specs.declared.levels.Level.{Level}
use Rattle.tl_spec.specs.Lex.ByteClass.{is_void}
use Rattle.tl_tree.proofs.RowLaws.{contents-length, rows-length}
use Rattle.tl_tree.specs.Rows.{Node, Row, a_comment, a_doctype, a_text, an_element, contents, contents_count, contents_rows, lone_row, row_count, rows_from, rows_of}
use Rattle.tl_tree_safe.proofs.LevelFacts.{AreListed, room_read, void_kind}
use Rattle.tl_tree_safe.proofs.TellingSteps.{tell_more, tell_none, told_is}
use Rattle.tl_tree_safe.proofs.WalkSteps.{StaysOpen, behind_is, if-false, if-true, is_there, next_entered, next_passed, none_left}
use Rattle.tl_tree_safe.specs.Characters.{cleaned}
use Rattle.tl_tree_safe.specs.Fitted.{is_read}
use Rattle.tl_tree_safe.specs.Inner.Levels.{level_of, names_of}
use Rattle.tl_tree_safe.specs.Inner.Pass.{first_said}
use Rattle.tl_tree_safe.specs.Inner.Telling.{node_told, row_told, tag_told, told, told_from}
use Rattle.tl_tree_safe.specs.Inner.Walk.{Spot, behind_element, behind_node, behind_row, ended, fate_of, is_passed, is_passed_node, listed_fate, next_row}
use Rattle.tl_tree_safe.specs.Kept.{goes, part_of, stays, unwrapped}
use Rattle.tl_tree_safe.specs.Lists.{ListedWords, lists_plain_names, opaque_names}
use Rattle.tl_tree_safe.specs.Removed.{Gone, attributes_gone, element_gone, gone_from, gone_with, removed}
use Rattle.tl_tree_safe.specs.declared.fate.Fate.{Fate}
use Rattle.tl_tree_safe.specs.declared.fate.Fate.TheVariants.{Goes, Stays, Unwrapped}
use Rattle.tl_tree_safe.specs.declared.writer.Open.{Open}
use Rattle.tl_tree_spec.specs.HtmlForest.{is_empty}
use Rattle.tl_tree_spec.specs.Stays.{may_be_read}

abbrev spot_at : List (List ℕ) → Bool → List Open → Spot
spot_at around fresh opens = record { level = level_of around; fresh = fresh; opens = opens }

-- A walk has come to a spot; what it tells doesn't ask whether something stands in it yet, so that is
-- some Bool

record From (p : ListedWords) (R : List Row) (gone : List Gone) (n : ℕ) (around : List (List ℕ)) (opens : List Open) (all : List Gone) : Type 0 where
  fresh : Bool
  whole : all ≡ gone ++ told_from p R n (spot_at around fresh opens)

module _ (p : ListedWords) (plain : lists_plain_names p ≡ true) (R : List Row) where
  -- what is told from a row on, where trees stand
  abbrev GoesOn : List Gone → ℕ → List (List ℕ) → List Open → List Gone → Type 0
  GoesOn gone n around opens all = From p R gone n around opens all

  -- a row where no element ends
  row-told : (n to : ℕ) (row : Row) (around : List (List ℕ)) (fresh : Bool) (opens : List Open) → slice_get R n ≡ Some row → StaysOpen to opens → n < to →
      told_from p R n (spot_at around fresh opens)
      ≡ node_told p (spot_at around fresh opens) n row.node
      ++ told_from p R (next_row p R (spot_at around fresh opens) n) (behind_node p n row.end (spot_at around fresh opens) row.node)
  row-told n to row around fresh opens at o l =
      let s = spot_at around fresh opens in
      tell_more p R n s (is_there R n row at)
      ∙ ap (λ (t : Spot). row_told p R t n ++ told_from p R (next_row p R t n) (behind_row p R t n)) (none_left n to (level_of around) fresh opens o l)
      ∙ ap₂ (λ (x : List Gone) (t : Spot). x ++ told_from p R (next_row p R s n) t) (told_is p R n row at s) (behind_is p R n row at s)

  -- where only the next row is gone to, or the one behind what is below
  entered-told : (n to : ℕ) (row : Row) (around : List (List ℕ)) (fresh : Bool) (opens : List Open) → slice_get R n ≡ Some row → StaysOpen to opens → n < to →
      is_passed_node p (spot_at around fresh opens) row.node ≡ false →
      told_from p R n (spot_at around fresh opens)
      ≡ node_told p (spot_at around fresh opens) n row.node ++ told_from p R (n + 1) (behind_node p n row.end (spot_at around fresh opens) row.node)
  entered-told n to row around fresh opens at o l h =
      let s = spot_at around fresh opens in
      row-told n to row around fresh opens at o l
      ∙ ap (λ k. node_told p s n row.node ++ told_from p R k (behind_node p n row.end s row.node)) (next_entered p R n row at s h)

  passed-told : (n to : ℕ) (row : Row) (around : List (List ℕ)) (fresh : Bool) (opens : List Open) → slice_get R n ≡ Some row → StaysOpen to opens → n < to → n < row.end →
      is_passed_node p (spot_at around fresh opens) row.node ≡ true →
      told_from p R n (spot_at around fresh opens)
      ≡ node_told p (spot_at around fresh opens) n row.node ++ told_from p R row.end (behind_node p n row.end (spot_at around fresh opens) row.node)
  passed-told n to row around fresh opens at o l e h =
      let s = spot_at around fresh opens in
      row-told n to row around fresh opens at o l
      ∙ ap (λ k. node_told p s n row.node ++ told_from p R k (behind_node p n row.end s row.node)) (next_passed p R n row at s h e)

  -- the innermost element ends, and then the others
  one_ends : (n : ℕ) (level : Level) (fresh : Bool) (o : Open) (opens : List Open) → o.end ≤ n →
      told_from p R n (record { level = level; fresh = fresh; opens = o ∷ opens })
      ≡ told_from p R n (record { level = o.outer; fresh = false; opens = opens })
  one_ends n level fresh o opens h =
      let outer : Spot = record { level = o.outer; fresh = false; opens = opens } in
      let inner : Spot = record { level = level; fresh = fresh; opens = o ∷ opens } in
      let left : ended n inner ≡ ended n outer = if-true (nat_le o.end n) _ _ (le-leb o.end n h) in
      elim (cases_Bool (nat_lt n (length R))) [
        | inl less ↦
            let l = ltb-true n (length R) less in
            tell_more p R n inner l
            ∙ ap (λ (s : Spot). row_told p R s n ++ told_from p R (next_row p R s n) (behind_row p R s n)) left
            ∙ sym (tell_more p R n outer l)
        | inr more ↦
            let l = ltb-false n (length R) more in
            tell_none p R n inner l ∙ sym (tell_none p R n outer l)
      ]

  abbrev Tells : HtmlForest → Type 0
  Tells f = (n : ℕ) (parent : Option ℕ) (post : List Row) (around : List (List ℕ)) (fresh : Bool) (opens : List Open) →
      drop n R ≡ rows_from n parent f ++ post → AreListed p around → StaysOpen (n + row_count f) opens →
      GoesOn (gone_from p (names_of around) n f) (n + row_count f) around opens (told_from p R n (spot_at around fresh opens))

  -- behind what was told
  behind : (all before gone rest : List Gone) (n : ℕ) (around : List (List ℕ)) (opens : List Open) → all ≡ before ++ rest → GoesOn gone n around opens rest → GoesOn (before ++ gone) n around opens all
  behind all before gone rest n around opens e g = record {
    fresh = g.fresh;
    whole = e ∙ ap (λ x. before ++ x) g.whole ∙ sym (append_assoc before gone (told_from p R n (spot_at around g.fresh opens)));
  }

  moved : (gone : List Gone) (n last : ℕ) (around : List (List ℕ)) (opens : List Open) (all : List Gone) → n ≡ last → GoesOn gone n around opens all → GoesOn gone last around opens all
  moved gone n last around opens all e g = subst (λ k. GoesOn gone k around opens all) e g

  -- trees behind what was told
  then-more : (more : HtmlForest) → Tells more → (gone all : List Gone) (n last : ℕ) (parent : Option ℕ) (post : List Row) (around : List (List ℕ)) (opens : List Open) →
      drop n R ≡ rows_from n parent more ++ post → AreListed p around → StaysOpen last opens → n + row_count more ≡ last →
      GoesOn gone n around opens all → GoesOn (gone ++ gone_from p (names_of around) n more) last around opens all
  then-more more later gone all n last parent post around opens e a o place g =
      behind all gone (gone_from p (names_of around) n more) (told_from p R n (spot_at around g.fresh opens)) last around opens g.whole
      (moved (gone_from p (names_of around) n more) (n + row_count more) last around opens _ place
      (later n parent post around g.fresh opens e a (subst (λ k. StaysOpen k opens) (sym place) o)))

  -- a node of which nothing is told, without others below it
  lone-tells : (node : Node) (more : HtmlForest) (fresh_behind : Bool → List (List ℕ) → Bool) → Tells more →
      ((around : List (List ℕ)) (fresh : Bool) (opens : List Open) → is_passed_node p (spot_at around fresh opens) node ≡ false) →
      ((around : List (List ℕ)) (fresh : Bool) (opens : List Open) (n : ℕ) → node_told p (spot_at around fresh opens) n node ≡ []) →
      ((around : List (List ℕ)) (fresh : Bool) (opens : List Open) (n end : ℕ) → behind_node p n end (spot_at around fresh opens) node ≡ spot_at around (fresh_behind fresh around) opens) →
      (n : ℕ) (parent : Option ℕ) (post : List Row) (around : List (List ℕ)) (fresh : Bool) (opens : List Open) →
      drop n R ≡ lone_row n parent node ∷ (rows_from (n + 1) parent more ++ post) → AreListed p around → StaysOpen (n + (1 + row_count more)) opens →
      GoesOn (gone_from p (names_of around) (n + 1) more) (n + (1 + row_count more)) around opens (told_from p R n (spot_at around fresh opens))
  lone-tells node more fresh_behind later is_one nothing behind-is n parent post around fresh opens e a o =
      let row = lone_row n parent node in
      let at = row_here R n row (rows_from (n + 1) parent more ++ post) e in
      let place : n + 1 + row_count more ≡ n + (1 + row_count more) = omega arith in
      then-more more later [] _ (n + 1) (n + (1 + row_count more)) parent post around opens (ap (λ k. drop k R) (add-one n) ∙ at.1) a o place
      (record {
        fresh = fresh_behind fresh around;
        whole =
            entered-told n (n + (1 + row_count more)) row around fresh opens at.0 o (omega arith) (is_one around fresh opens)
            ∙ ap₂ (λ (x : List Gone) (s : Spot). x ++ told_from p R (n + 1) s) (nothing around fresh opens n) (behind-is around fresh opens n row.end);
      })

  -- where the trees below an element begin
  below-tells : (below : HtmlForest) → Tells below → (b : Bool) (n : ℕ) (post : List Row) (around : List (List ℕ)) (fresh : Bool) (opens : List Open) →
      drop (suc n) R ≡ contents_rows b n (n + contents_count b + 1 + row_count below) ++ (rows_from (n + contents_count b + 1) (Some (n + contents_count b)) below ++ post) →
      AreListed p around → StaysOpen (n + contents_count b + 1 + row_count below) opens →
      GoesOn (gone_from p (names_of around) (n + contents_count b + 1) below) (n + contents_count b + 1 + row_count below) around opens (told_from p R (n + 1) (spot_at around fresh opens))
  below-tells below inner false n post around fresh opens e a o =
      let from : n + 0 + 1 ≡ n + 1 = ap (λ k. k + 1) (add-zero n) in
      subst (λ k. GoesOn (gone_from p (names_of around) (n + 0 + 1) below) (n + 0 + 1 + row_count below) around opens (told_from p R k (spot_at around fresh opens))) from
      (inner (n + 0 + 1) (Some (n + 0)) post around fresh opens (ap (λ k. drop k R) (from ∙ add-one n) ∙ e) a o)
  below-tells below inner true n post around fresh opens e a o =
      let to = n + 1 + 1 + row_count below in
      let row : Row = record { node = contents; parent = Some n; end = to } in
      let stand : drop (n + 1) R ≡ row ∷ (rows_from (n + 1 + 1) (Some (n + 1)) below ++ post) = ap (λ k. drop k R) (add-one n) ∙ e in
      let at = row_here R (n + 1) row (rows_from (n + 1 + 1) (Some (n + 1)) below ++ post) stand in
      let g = inner (n + 1 + 1) (Some (n + 1)) post around fresh opens (ap (λ k. drop k R) (add-one (n + 1)) ∙ at.1) a o in
      record { fresh = g.fresh; whole = entered-told (n + 1) to row around fresh opens at.0 o (omega arith) refl ∙ g.whole }

  -- An element

  -- what is told of an element whose rows end here
  module _ (tag : Tag) (below : HtmlForest) (inner : Tells below) (n : ℕ) (parent : Option ℕ) (back : List Row) where
    abbrev first : ℕ
    first = n + contents_count (has_contents tag) + 1

    abbrev to : ℕ
    to = n + contents_count (has_contents tag) + 1 + row_count below

    abbrev own_row : Row
    own_row = record { node = an_element tag; parent = parent; end = to }

    abbrev below_rows : List Row
    below_rows = contents_rows (has_contents tag) n to ++ (rows_from (n + contents_count (has_contents tag) + 1) (Some (n + contents_count (has_contents tag))) below ++ back)

    module _ (at : slice_get R n ≡ Some own_row) (e : drop (suc n) R ≡ below_rows) (around : List (List ℕ)) (fresh : Bool) (opens : List Open) (a : AreListed p around) (o : StaysOpen to opens) where
      abbrev here : Spot
      here = spot_at around fresh opens

      abbrev Fares : Fate → List Gone → Type 0
      Fares fate gone = fate_of p (level_of around) tag ≡ fate → GoesOn gone to around opens (told_from p R n here)

      goes-fares : Fares Goes (element_gone p n tag)
      goes-fares is = record {
        fresh = fresh;
        whole =
            passed-told n to own_row around fresh opens at o (omega arith) (omega arith) (ap is_passed is)
            ∙ ap (λ (f : Fate). tag_told p n tag f ++ told_from p R to (behind_element n to f here)) is;
      }

      unwrapped-fares : Fares Unwrapped (element_gone p n tag ++ gone_from p (names_of around) first below)
      unwrapped-fares is =
          behind _ (element_gone p n tag) (gone_from p (names_of around) first below) (told_from p R (n + 1) here) to around opens
          (entered-told n to own_row around fresh opens at o (omega arith) (ap is_passed is)
          ∙ ap (λ (f : Fate). tag_told p n tag f ++ told_from p R (n + 1) (behind_element n to f here)) is)
          (below-tells below inner (has_contents tag) n back around fresh opens e a o)

      -- one that stays

      module _ (listed : is_among p.tags tag.name ≡ true) where
        abbrev k : Kind
        k = kind_of tag.name

        abbrev attributes : List Gone
        attributes = attributes_gone p n tag.attributes

        void-fares : is_void tag.name ≡ true → Fares (Stays k) (attributes ++ [])
        void-fares void is =
            let v = sym (void_kind p plain tag.name listed) ∙ void in
            record {
              fresh = false;
              whole =
                  passed-told n to own_row around fresh opens at o (omega arith) (omega arith) (ap is_passed is ∙ v)
                  ∙ ap (λ (f : Fate). tag_told p n tag f ++ told_from p R to (behind_element n to f here)) is
                  ∙ ap₂ (λ (x : List Gone) (s : Spot). x ++ told_from p R to s) (sym (append-nil attributes)) (if-true (Kinds.is_void_kind k) _ _ v);
            }

        open-fares : is_void tag.name ≡ false → Fares (Stays k) (attributes ++ gone_from p (tag.name ∷ names_of around) first below)
        open-fares other is =
            let v = sym (void_kind p plain tag.name listed) ∙ other in
            let own : Open = record { number = n; end = to; outer = level_of around } in
            let drops = Kinds.is_preformatted k in
            let within = below-tells below inner (has_contents tag) n back (tag.name ∷ around) drops (own ∷ opens) e (listed, a) (omega arith) in
            behind _ attributes (gone_from p (tag.name ∷ names_of around) first below) (told_from p R (n + 1) (spot_at (tag.name ∷ around) drops (own ∷ opens))) to around opens
            (entered-told n to own_row around fresh opens at o (omega arith) (ap is_passed is ∙ v)
            ∙ ap (λ (f : Fate). tag_told p n tag f ++ told_from p R (n + 1) (behind_element n to f here)) is
            ∙ ap (λ (s : Spot). attributes ++ told_from p R (n + 1) s) (if-false (Kinds.is_void_kind k) _ _ v))
            (record {
              fresh = false;
              whole = within.whole ∙ ap (λ x. gone_from p (tag.name ∷ names_of around) first below ++ x) (one_ends to (level_of (tag.name ∷ around)) within.fresh own opens (omega arith));
            })

      -- what becomes of it

      abbrev fate_by : Bool → Bool → Bool → Fate
      fate_by h l q = if not h then Goes else if l then listed_fate (level_of around) (kind_of tag.name) else if q then Goes else Unwrapped

      fate-is : (h l q : Bool) → is_html tag ≡ h → is_among p.tags tag.name ≡ l → is_among opaque_names tag.name ≡ q → fate_of p (level_of around) tag ≡ fate_by h l q
      fate-is h l q a b c =
          ap (λ v. fate_by v (is_among p.tags tag.name) (is_among opaque_names tag.name)) a
          ∙ ap₂ (λ v w. fate_by h v w) b c

      abbrev listed_by : Bool → Bool → Fate
      listed_by r v = if r then Stays (kind_of tag.name) else if v then Goes else Unwrapped

      listed-is : (r v : Bool) → is_among p.tags tag.name ≡ true → is_read (names_of around) tag.name ≡ r → is_void tag.name ≡ v → listed_fate (level_of around) (kind_of tag.name) ≡ listed_by r v
      listed-is r v l b c = ap₂ listed_by (room_read p plain around tag.name a l ∙ b) (sym (void_kind p plain tag.name l) ∙ c)

      abbrev within : List Gone
      within = gone_from p (tag.name ∷ names_of around) first below

      abbrev in_place : List Gone
      in_place = gone_from p (names_of around) first below

      abbrev listed_gone : Bool → Bool → List Gone
      listed_gone r v =
          if r then attributes_gone p n tag.attributes ++ (if v then [] else within)
          else element_gone p n tag ++ (if v then [] else in_place)

      -- a listed one
      listed-fares : is_among p.tags tag.name ≡ true → (r v : Bool) → is_void tag.name ≡ v → fate_of p (level_of around) tag ≡ listed_by r v → GoesOn (listed_gone r v) to around opens (told_from p R n here)
      listed-fares l true true ev is = void-fares l ev is
      listed-fares l true false ev is = open-fares l ev is
      listed-fares l false true ev is = subst (λ (gone : List Gone). GoesOn gone to around opens (told_from p R n here)) (sym (append-nil (element_gone p n tag))) (goes-fares is)
      listed-fares l false false ev is = unwrapped-fares is

      fares-by : (h l q : Bool) → is_html tag ≡ h → is_among p.tags tag.name ≡ l → is_among opaque_names tag.name ≡ q →
          GoesOn (gone_with p (names_of around) n tag within in_place (if not h then goes else if l then stays else if q then goes else unwrapped)) to around opens (told_from p R n here)
      fares-by false l q eh el eq = goes-fares (fate-is false l q eh el eq)
      fares-by true true q eh el eq =
          listed-fares el (is_read (names_of around) tag.name) (is_void tag.name) refl
          (fate-is true true q eh el eq ∙ listed-is (is_read (names_of around) tag.name) (is_void tag.name) el refl refl)
      fares-by true false true eh el eq = goes-fares (fate-is true false true eh el eq)
      fares-by true false false eh el eq = unwrapped-fares (fate-is true false false eh el eq)

      element-fares : GoesOn (gone_with p (names_of around) n tag within in_place (part_of p tag)) to around opens (told_from p R n here)
      element-fares = fares-by (is_html tag) (is_among p.tags tag.name) (is_among opaque_names tag.name) refl refl refl

  earlier : (to last : ℕ) (opens : List Open) → StaysOpen last opens → to ≤ last → StaysOpen to opens
  earlier to last [] h l = tt
  earlier to last (o ∷ opens) h l = omega arith

  element-tells : (tag : Tag) (below more : HtmlForest) → Tells below → Tells more → Tells (element tag below more)
  element-tells tag below more inner later n parent post around fresh opens e a o =
      let b = has_contents tag in
      let to = n + contents_count b + 1 + row_count below in
      let last = n + (1 + contents_count b + row_count below + row_count more) in
      let row : Row = record { node = an_element tag; parent = parent; end = to } in
      let place : to + row_count more ≡ last = omega arith in
      let front = contents_rows b n to in
      let mid = rows_from (n + contents_count b + 1) (Some (n + contents_count b)) below in
      let back = rows_from to parent more in
      let at = row_here R n row ((front ++ (mid ++ back)) ++ post) e in
      let regrouped : drop (suc n) R ≡ front ++ (mid ++ (back ++ post)) =
      at.1 ∙ append_assoc front (mid ++ back) post ∙ ap (λ x. front ++ x) (append_assoc mid back post) in
      let count : suc n + length front + length mid ≡ to = (let c = contents-length b n to in let d = rows-length (n + contents_count b + 1) (Some (n + contents_count b)) below in omega (arith, c, d)) in
      let stand : drop to R ≡ back ++ post = ap (λ k. drop k R) (sym count) ∙ rows_behind mid (back ++ post) R (suc n + length front) (rows_behind front (mid ++ (back ++ post)) R (suc n) regrouped) in
      then-more more later _ _ to last parent post around opens stand a o place
      (element-fares tag below inner n parent (back ++ post) at.0 regrouped around fresh opens a (earlier to last opens o (omega arith)))

  -- Trees

  nothing-tells : Tells no_trees
  nothing-tells n parent post around fresh opens e a o =
      record { fresh = fresh; whole = ap (λ k. told_from p R k (spot_at around fresh opens)) (sym (add-zero n)) }

  trees-tell : (f : HtmlForest) → Tells f
  trees-tell no_trees = nothing-tells
  trees-tell (text own more) =
      lone-tells (a_text own) more (λ fresh around. fresh && is_empty (first_said fresh (filter (may_be_read (level_of around).path.flow) (cleaned own.said)))) (trees-tell more)
      (λ around fresh opens. refl) (λ around fresh opens n. refl) (λ around fresh opens n end. refl)
  trees-tell (comment own more) =
      lone-tells (a_comment own) more (λ fresh around. fresh) (trees-tell more) (λ around fresh opens. refl) (λ around fresh opens n. refl) (λ around fresh opens n end. refl)
  trees-tell (doctype own more) =
      lone-tells (a_doctype own) more (λ fresh around. fresh) (trees-tell more) (λ around fresh opens. refl) (λ around fresh opens n. refl) (λ around fresh opens n end. refl)
  trees-tell (element tag below more) = element-tells tag below more (trees-tell below) (trees-tell more)

pub told_removed : (p : ListedWords) (trees : HtmlForest) → lists_plain_names p ≡ true → told p (rows_of trees) ≡ removed p trees
told_removed p trees plain =
    let R = rows_of trees in
    let all = rows-length 0 None trees in
    let g = trees-tell p plain R trees 0 None [] [] false [] (sym (append-nil R)) tt tt in
    g.whole
    ∙ ap (λ x. removed p trees ++ x) (tell_none p R (0 + row_count trees) (spot_at [] g.fresh []) (omega (arith, all)))
    ∙ append-nil (removed p trees)
