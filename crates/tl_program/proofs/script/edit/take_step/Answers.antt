use Rattle.std.proofs.Common.{rules, true, false, Result, Ok, Some, None}
use Rattle.tl_bytes.specs.Held.{as_owned}
use Rattle.tl_spec.specs.Edit.{Refusal, without_handle, map_ok}
use Rattle.tl_spec.specs.Tree.Inline.{room, with_last}
use Rattle.tl.specs.View.{HTMLTag}
use Rattle.tl.specs.declared.parser.tag.node.NodeOf.TheVariants.{Raw, Comment}
use Rattle.tl_program.specs.TableEdit.{with_attribute, without_attribute, without_value}
use Rattle.tl_program.proofs.script.edit.take_step.Goals as goal

pub returns-in-Name : goal.returns-in-Name
returns-in-Name c =
    let edit : HTMLTag → Result HTMLTag Refusal = λ own. Ok (record own { name = as_owned c.in-Name.name.now }) in
    let done = c.change_tag.ensures true edit (λ tag made told h. search rules) in
    search rules

pub returns-in-Text : goal.returns-in-Text
returns-in-Text c = let done = c.replace_node.ensures (Raw (as_owned c.in-Text.text.now)) (λ made h. search rules) in search rules

pub returns-in-Comment : goal.returns-in-Comment
returns-in-Comment c = let done = c.replace_node-in-Comment.ensures (Comment (as_owned c.in-Comment.text.now)) (λ made h. search rules) in search rules

pub returns-in-Set : goal.returns-in-Set
returns-in-Set c =
    let edit : HTMLTag → Result HTMLTag Refusal = λ own. Ok (record own { attributes = with_attribute own.attributes c.in-Set.key.now (Some (as_owned c.in-Set.value.now)) }) in
    let done = c.change_tag-in-Set.ensures true edit (λ tag made told h. search rules) in
    search rules

pub returns-in-Flag : goal.returns-in-Flag
returns-in-Flag c =
    let edit : HTMLTag → Result HTMLTag Refusal = λ own. Ok (record own { attributes = with_attribute own.attributes c.in-Flag.key.now None }) in
    let done = c.change_tag-in-Flag.ensures true edit (λ tag made told h. search rules) in
    search rules

pub returns-in-Unset : goal.returns-in-Unset
returns-in-Unset c =
    let edit : HTMLTag → Result HTMLTag Refusal = λ own. Ok (record own { attributes = without_attribute own.attributes c.in-Unset.key.now }) in
    let done = c.change_tag-in-Unset.ensures true edit (λ tag made told h. search rules) in
    search rules

pub returns-in-Bare : goal.returns-in-Bare
returns-in-Bare c =
    let edit : HTMLTag → Result HTMLTag Refusal = λ own. Ok (record own { attributes = without_value own.attributes c.in-Bare.key.now }) in
    let done = c.change_tag-in-Bare.ensures true edit (λ tag made told h. search rules) in
    search rules

pub returns-in-Push : goal.returns-in-Push
returns-in-Push c =
    let edit : HTMLTag → Result HTMLTag Refusal = λ own. Ok (record own { children = with_last room own.children c.in-Push.child }) in
    let done = c.change_tag-in-Push.ensures true edit (λ tag made told h. search rules) in
    search rules

pub returns-in-Pull : goal.returns-in-Pull
returns-in-Pull c =
    let edit : HTMLTag → Result HTMLTag Refusal = λ own. map_ok (λ handles. record own { children = handles }) (without_handle own.children c.in-Pull.place) in
    let done = c.change_tag-in-Pull.ensures false edit (λ tag made told h. search rules) in
    search rules
