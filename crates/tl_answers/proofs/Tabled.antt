-- Tables one behind the other, and the first one that is too much.
use Rattle.std.proofs.Common.{Bool, List, Option, [], ap, append-nil, append_assoc, arith, drop, false, filter, flat_map, get_or, length, length-append, refl, subst, suc, sym, take, true, zero, ℕ, ◌+◌, ◌-◌, ◌++◌, ◌<◌, ◌∙◌, ◌≡◌, ◌≤◌, ◌∷◌}
use Rattle.std.proofs.lemmas.List.{take_all}
use Rattle.std.specs.Option.{option_copied}
use Rattle.tl_answers.proofs.Joined.{flat_map_next}
use Rattle.tl_answers.specs.Inner.Tables.{IsTableReason, IsTextReason, IsTooLong}
use Rattle.tl_answers.specs.LeftOut.{AreLeftOut}
use Rattle.tl_answers.specs.Tables.{Fit, IsLargeAt, asked_tables, later_text, start_of, table_limit, table_text, tables_text}
use Rattle.tl_answers.specs.declared.error.AnswerError.{AnswerError}
use Rattle.tl_answers.specs.declared.error.AnswerError.TheVariants.{LargeTable, LongUrl, OutOfMemory, Unread}
use Rattle.tl_answers.specs.declared.tables.TableQuery.{TableQuery}
use Rattle.tl_tree.specs.Rows.{Row}
use Rattle.tl_tree.specs.declared.source.Source.{Source}
use Rattle.tl_tree_select.specs.Page.{Page}

-- Which tables

kept : (p : ℕ → Bool) (n : ℕ) (rest : List ℕ) → p n ≡ true → filter p (n ∷ rest) ≡ n ∷ filter p rest
kept p n rest e = rw e refl

passed : (p : ℕ → Bool) (n : ℕ) (rest : List ℕ) → p n ≡ false → filter p (n ∷ rest) ≡ filter p rest
passed p n rest e = rw e refl

pub kept_next : (p : ℕ → Bool) (n : ℕ) (xs rest : List ℕ) → p n ≡ true → xs ++ filter p (n ∷ rest) ≡ (xs ++ n ∷ []) ++ filter p rest
kept_next p n xs rest e =
    ap (λ (v : List ℕ). xs ++ v) (kept p n rest e) ∙ sym (append_assoc xs (n ∷ []) (filter p rest))

pub passed_next : (p : ℕ → Bool) (n : ℕ) (xs rest : List ℕ) → p n ≡ false → xs ++ filter p (n ∷ rest) ≡ xs ++ filter p rest
passed_next p n xs rest e = ap (λ (v : List ℕ). xs ++ v) (passed p n rest e)

pub none_behind : (xs : List ℕ) (n : ℕ) → length xs ≤ n → [] ≡ take 1 (drop n xs)
none_behind [] zero h = refl
none_behind [] (suc n) h = refl
none_behind (x ∷ xs) zero h = absurd (let g : ⊥ = omega (arith, h) in g)
none_behind (x ∷ xs) (suc n) h = none_behind xs n (omega (arith, h))

-- a list that isn't empty
pub first_part : (s : List ℕ) → 1 ≤ length s → get_or s 0 0 ∷ take (length s - 1) (drop 1 s) ≡ s
first_part [] h = absurd (let g : ⊥ = omega (arith, h) in g)
first_part (x ∷ s) h =
    let n : suc (length s) - 1 ≡ length s = omega arith in
    ap (λ (v : List ℕ). x ∷ v) (ap (λ (k : ℕ). take k s) n ∙ take_all (length s) s (omega arith))

-- One table behind a text

pub full_before : (most : ℕ) (old own : List ℕ) (source : Option Source) (e : AnswerError) → e ≡ LargeTable (start_of source) → most < length old
    → IsTooLong most (old ++ own) source e
full_before most old own source e same over =
    let whole = length-append old own in
    let more : most < length (old ++ own) = omega (arith, over, whole) in
    subst (λ (e : AnswerError). IsTooLong most (old ++ own) source e) (sym same) (more, refl)

pub too_long : (most left : ℕ) (old own : List ℕ) (source : Option Source) (e : AnswerError) → e ≡ LargeTable (start_of source) → length old ≤ most
    → left ≡ most - length old → left < length own → IsTooLong most (old ++ own) source e
too_long most left old own source e same few rest over =
    let whole = length-append old own in
    let more : most < length (old ++ own) = omega (arith, few, rest, over, whole) in
    subst (λ (e : AnswerError). IsTooLong most (old ++ own) source e) (sym same) (more, refl)

pub fits_behind : (most left : ℕ) (old own new : List ℕ) → new ≡ old ++ own → length old ≤ most → left ≡ most - length old → length own ≤ left
    → length new ≤ most
fits_behind most left old own new said few rest fits =
    let same = ap (λ (v : List ℕ). length v) said in
    let whole = length-append old own in
    omega (arith, same, few, rest, fits, whole)

-- All

-- what is said of tables that are those that are asked for
pub asked_reason : (size : ℕ) (query : TableQuery) (page : Page) (sources : ℕ → Option Source) (asked : List ℕ)
    → ((found : List ℕ) → AreLeftOut (option_copied query.within) page found → asked ≡ asked_tables page.rows query found) → (e : AnswerError)
    → IsTextReason size query page.rows sources asked e → IsTableReason size query page sources e
asked_reason size query page sources asked is (Unread error) why = why
asked_reason size query page sources asked is (LargeTable at) why = λ found selected.
    subst (λ (tables : List ℕ). IsLargeAt size query page.rows sources tables at) (is found selected) why
asked_reason size query page sources asked is LongUrl why = why
asked_reason size query page sources asked is OutOfMemory why = why

module _ (size most : ℕ) (query : TableQuery) (rows : List Row) (sources : ℕ → Option Source) (first : ℕ) (later : List ℕ) (limit : most ≡ table_limit size) where
  abbrev own : List ℕ
  own = table_text query.form query.spans rows first

  abbrev more : ℕ → List ℕ
  more = later_text query.form query.spans rows

  -- the first one is too much
  pub first_reason : (error : AnswerError) → IsTooLong most own (sources first) error → IsTextReason size query rows sources (first ∷ later) error
  first_reason (Unread error) why = absurd why
  first_reason (LargeTable at) why = record {
    count = 0;
    is_table = omega arith;
    few = omega arith;
    long = (let same = ap (λ (v : List ℕ). length v) (append-nil own) in omega (arith, limit, same, why.0));
    begins = why.1;
  }
  first_reason LongUrl why = absurd why
  first_reason OutOfMemory why = tt

  -- one behind it is
  pub later_reason : (i : ℕ) (text : List ℕ) (error : AnswerError) → i < length later → text ≡ own ++ flat_map more (take i later) → length text ≤ most
      → IsTooLong most (text ++ more (get_or later i 0)) (sources (get_or later i 0)) error → IsTextReason size query rows sources (first ∷ later) error
  later_reason i text (Unread error) within said few why = absurd why
  later_reason i text (LargeTable at) within said few why =
      let next : i + 1 ≡ suc i = omega arith in
      let whole : text ++ more (get_or later i 0) ≡ own ++ flat_map more (take (suc i) later) =
      ap (λ (v : List ℕ). v ++ more (get_or later i 0)) said
      ∙ append_assoc own (flat_map more (take i later)) (more (get_or later i 0))
      ∙ ap (λ (v : List ℕ). own ++ v) (flat_map_next more later i within)
      ∙ ap (λ (k : ℕ). own ++ flat_map more (take k later)) next in
      record {
        count = suc i;
        is_table = omega (arith, within);
        few = (let same = ap (λ (v : List ℕ). length v) said in omega (arith, limit, same, few));
        long = (let same = ap (λ (v : List ℕ). length v) whole in omega (arith, limit, same, why.0));
        begins = why.1;
      }
  later_reason i text LongUrl within said few why = absurd why
  later_reason i text OutOfMemory within said few why = tt
