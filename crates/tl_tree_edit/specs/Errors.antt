-- Errors.
use Rattle.tl_tree.specs.declared.error.ReadError.{ReadError}
use Rattle.tl_tree.specs.declared.error.ReadError.TheVariants.{OutOfMemory}
use Rattle.tl_tree_edit.specs.declared.error.MadeError.{MadeError}
use Rattle.tl_tree_edit.specs.declared.error.MadeError.TheVariants as error

-- want of memory is one error, whatever wanted it
abbrev pub error_of_read : ReadError → MadeError
error_of_read OutOfMemory = error.OutOfMemory
error_of_read why = error.Unread why
