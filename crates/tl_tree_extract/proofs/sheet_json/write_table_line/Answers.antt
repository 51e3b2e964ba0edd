use Rattle.std.proofs.Common.{List, [], ap, append_assoc, arith, length, length-append, rules, subst, sym, ℕ, ◌+◌, ◌++◌, ◌<◌, ◌∙◌, ◌∷◌, ◌≡◌, ◌≤◌}
use Rattle.json.specs.Print.{print}
use Rattle.json.specs.Token.{Token}
use Rattle.std.specs.Option.{option_copied}
use Rattle.std.proofs.lemmas.Result.{on_ok_weaker}
use Rattle.tl_tree.specs.TreeView.{rows_in}
use Rattle.tl_tree_extract.proofs.Arrays.{line_over, tokens_over}
use Rattle.tl_tree_extract.proofs.Rising.{table_rising}
use Rattle.tl_tree_extract.proofs.Sinks.{text_of}
use Rattle.tl_tree_extract.specs.Inner.Sinks.{IsOver, after, text_taken}
use Rattle.tl_tree_extract.specs.Inner.Slots.{AreRising}
use Rattle.tl_tree_extract.specs.SheetJson.{array_of_rows, table_line, with_file}
use Rattle.tl_tree_extract.specs.Table.{TableModel, table_of, table_said}
use Rattle.tl_tree_extract.proofs.sheet_json.write_table_line.Goals as goal

pub put_table-requires : goal.put_table-requires
put_table-requires c =
    subst (λ (t : TableModel). AreRising 0 (length t.rows) t.cells) (sym c.in_ok-table.ensures.said) (table_rising (rows_in c.args.tree.now) c.args.number)

pub returns-in_err-table-clause-long : goal.returns-in_err-table-clause-long
returns-in_err-table-clause-long c = λ h.
    let over = c.in_err-table.ensures.long (search (rules, h)) in
    line_over (option_copied c.args.file) c.args.spans (rows_in c.args.tree.now) c.args.number c.args.limit over.1

pub returns-clause-written : goal.returns-clause-written
returns-clause-written c =
    let rows = rows_in c.args.tree.now in
    let file = option_copied c.args.file in
    let o : List ℕ = c.new-text.result.out.items in
    let start : o ≡ c.args.out.now.items = c.new-text.ensures.out ∙ ap (λ v. v.items) c.replace.ensures.value in
    let said : List Token = with_file file (array_of_rows c.args.spans rows (table_said c.in_ok-table.table)) in
    let text : c.into_inner.result.items ≡ c.args.out.now.items ++ print said =
    c.into_inner.ensures
    ∙ text_of o c.put_table.new.out.out.items c.new-text.result.after_value c.put_table.new.out.after_value said c.new-text.ensures.place c.in_ok-put_table.ensures.adds
    ∙ ap (λ l. l ++ print said) start in
    let pushed : c.push.new.self.items ≡ c.into_inner.result.items ++ 10 ∷ [] = search rules in
    let whole : c.push.new.self.items ≡ c.args.out.now.items ++ (print said ++ 10 ∷ []) =
    pushed ∙ ap (λ l. l ++ 10 ∷ []) text ∙ append_assoc c.args.out.now.items (print said) (10 ∷ []) in
    on_ok_weaker c.check.result
    (λ few. whole ∙ ap (λ (t : TableModel). c.args.out.now.items ++ (print (with_file file (array_of_rows c.args.spans rows t)) ++ 10 ∷ [])) c.in_ok-table.ensures.said)
    c.check.ensures.within

pub returns-in_err-put_table-clause-long : goal.returns-in_err-put_table-clause-long
returns-in_err-put_table-clause-long c = λ h.
    let rows = rows_in c.args.tree.now in
    let file = option_copied c.args.file in
    let o : List ℕ = c.new-text.result.out.items in
    let start : o ≡ c.args.out.now.items = c.new-text.ensures.out ∙ ap (λ v. v.items) c.replace.ensures.value in
    let begun : c.len.result ≡ length o = c.len.ensures ∙ (c.args.out.now.ok.0 ∙ ap (λ (v : List ℕ). length v) (sym start)) in
    let said : List Token = with_file file (array_of_rows c.args.spans rows (table_said c.in_ok-table.table)) in
    let over : c.args.limit < length (print said ++ 10 ∷ []) =
    tokens_over c.len.result c.args.limit o c.new-text.result.after_value said begun c.new-text.ensures.place (c.in_err-put_table.ensures.long (search (rules, h))) in
    subst (λ (t : TableModel). c.args.limit < length (print (with_file file (array_of_rows c.args.spans rows t)) ++ 10 ∷ [])) c.in_ok-table.ensures.said over

-- what is behind the vector, and how long that is
behind-few : (start most : ℕ) (old line new : List ℕ) → new ≡ old ++ line → start ≡ length old → length new ≤ start + most → length line ≤ most
behind-few start most old line new whole begun few =
    let same = ap (λ (v : List ℕ). length v) whole in
    let parts = length-append old line in
    omega (arith, few, same, parts, begun)

behind-over : (start most : ℕ) (old line new : List ℕ) → new ≡ old ++ line → start ≡ length old → start + most < length new → most < length line
behind-over start most old line new whole begun over =
    let same = ap (λ (v : List ℕ). length v) whole in
    let parts = length-append old line in
    omega (arith, over, same, parts, begun)

pub returns-clause-within : goal.returns-clause-within
returns-clause-within c =
    let rows = rows_in c.args.tree.now in
    let file = option_copied c.args.file in
    let o : List ℕ = c.new-text.result.out.items in
    let start : o ≡ c.args.out.now.items = c.new-text.ensures.out ∙ ap (λ v. v.items) c.replace.ensures.value in
    let said : List Token = with_file file (array_of_rows c.args.spans rows (table_said c.in_ok-table.table)) in
    let text : c.into_inner.result.items ≡ c.args.out.now.items ++ print said =
    c.into_inner.ensures
    ∙ text_of o c.put_table.new.out.out.items c.new-text.result.after_value c.put_table.new.out.after_value said c.new-text.ensures.place c.in_ok-put_table.ensures.adds
    ∙ ap (λ l. l ++ print said) start in
    let pushed : c.push.new.self.items ≡ c.into_inner.result.items ++ 10 ∷ [] = search rules in
    let line : List ℕ = table_line file c.args.spans rows c.args.number in
    let whole : c.push.new.self.items ≡ c.args.out.now.items ++ line =
    pushed
    ∙ ap (λ l. l ++ 10 ∷ []) text
    ∙ append_assoc c.args.out.now.items (print said) (10 ∷ [])
    ∙ ap (λ (t : TableModel). c.args.out.now.items ++ (print (with_file file (array_of_rows c.args.spans rows t)) ++ 10 ∷ [])) c.in_ok-table.ensures.said in
    let begun : c.len.result ≡ length c.args.out.now.items = c.len.ensures ∙ c.args.out.now.ok.0 in
    let ended : c.len-end.result ≡ length c.push.new.self.items = c.len-end.ensures ∙ c.push.new.self.ok.0 in
    on_ok_weaker c.check.result
    (λ few. behind-few c.len.result c.args.limit c.args.out.now.items line c.push.new.self.items whole begun (omega (arith, few, ended)))
    c.check.ensures.within

pub returns-clause-long : goal.returns-clause-long
returns-clause-long c = λ h.
    let rows = rows_in c.args.tree.now in
    let file = option_copied c.args.file in
    let o : List ℕ = c.new-text.result.out.items in
    let start : o ≡ c.args.out.now.items = c.new-text.ensures.out ∙ ap (λ v. v.items) c.replace.ensures.value in
    let said : List Token = with_file file (array_of_rows c.args.spans rows (table_said c.in_ok-table.table)) in
    let text : c.into_inner.result.items ≡ c.args.out.now.items ++ print said =
    c.into_inner.ensures
    ∙ text_of o c.put_table.new.out.out.items c.new-text.result.after_value c.put_table.new.out.after_value said c.new-text.ensures.place c.in_ok-put_table.ensures.adds
    ∙ ap (λ l. l ++ print said) start in
    let pushed : c.push.new.self.items ≡ c.into_inner.result.items ++ 10 ∷ [] = search rules in
    let line : List ℕ = table_line file c.args.spans rows c.args.number in
    let whole : c.push.new.self.items ≡ c.args.out.now.items ++ line =
    pushed
    ∙ ap (λ l. l ++ 10 ∷ []) text
    ∙ append_assoc c.args.out.now.items (print said) (10 ∷ [])
    ∙ ap (λ (t : TableModel). c.args.out.now.items ++ (print (with_file file (array_of_rows c.args.spans rows t)) ++ 10 ∷ [])) c.in_ok-table.ensures.said in
    let begun : c.len.result ≡ length c.args.out.now.items = c.len.ensures ∙ c.args.out.now.ok.0 in
    let ended : c.len-end.result ≡ length c.push.new.self.items = c.len-end.ensures ∙ c.push.new.self.ok.0 in
    behind-over c.len.result c.args.limit c.args.out.now.items line c.push.new.self.items whole begun (let told = c.check.ensures.long h in omega (arith, told, ended))
