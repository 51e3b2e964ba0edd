use Rattle.std.proofs.Common.{List, ap, drop, length, map, refl, string_bytes, sym, ℕ, ◌++◌, ◌∙◌, ◌≡◌}
use Rattle.std.proofs.Math.ListN.{drop_of_length-le}
use Rattle.std.proofs.lemmas.List.{append-nil}
use Rattle.std.specs.Option.{option_map}
use Rattle.tl_tree.specs.TreeView.{rows_in}
use Rattle.tl_values.specs.Names.{with_made}
use Rattle.tl_values.specs.Naming.{names_got, page_names, text_name}
use Rattle.tl_values.specs.NewValues.{got}
use Rattle.tl_values.proofs.NamesGot.{one_more}
use Rattle.tl_values.proofs.naming.names_got.Goals as goal

pub loop-number-init : goal.loop-number-init
loop-number-init c = (
  page_names c.args.key.now (rows_in c.args.tree.now),
  c.in_ok-names.ensures,
  ap (λ own. map got own ++ names_got c.args.key.now (rows_in c.args.tree.now) (page_names c.args.key.now (rows_in c.args.tree.now)) c.args.numbers.now) c.new-values.ensures.items,
)

pub loop-number-preserved : goal.loop-number-preserved
loop-number-preserved c =
    let own = c.loop-number.invariant in
    let used : List (List ℕ) = own.0 in
    let next : List (List ℕ) = with_made used (text_name c.args.key.now (rows_in c.args.tree.now) used _) in (
      next,
      c.in_ok-name.ensures.kept used own.1,
      one_more c.args.key.now (rows_in c.args.tree.now) used c.args.numbers.now c.loop-number.number-index 0 _ (option_map string_bytes c.in_ok-name.name) (map got c.loop-number.values.items)
          (map got c.push_name.new.values.items) _ c.loop-number-test.true refl (c.in_ok-name.ensures.made used own.1) c.in_ok-push_name.ensures own.2,
    )

pub returns : goal.returns
returns c =
    let own = c.loop-number.invariant in
    sym (append-nil (map got c.loop-number.values.items))
    ∙ ap (λ numbers. map got c.loop-number.values.items ++ names_got c.args.key.now (rows_in c.args.tree.now) own.0 numbers) (sym (drop_of_length-le c.args.numbers.now c.loop-number-test.false))
    ∙ own.2
