use Rattle.std.proofs.Common.{string_bytes}
use Rattle.std.proofs.lemmas.Map.Text.{btree_map_updates_text}
use Rattle.tl_values.proofs.names.Names.put.Goals as goal
use Rattle.tl_values.proofs.names.Names.put.Goals.{in-Ok, in-Err}

pub returns-clause-put : goal.returns-clause-put
returns-clause-put c =
    elim c.match-insert.branch [
      | in-Ok w ↦ rw w.result-is (btree_map_updates_text (string_bytes c.args.name) c.args.self.now.taken c.insert.new.self _ w.in-Ok.ensures.updates)
      | in-Err w ↦ rw w.result-is tt
    ]
