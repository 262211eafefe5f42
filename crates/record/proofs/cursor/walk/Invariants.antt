use Rattle.arithmetic.proofs.Counting.{Counting}
use Rattle.record.specs.Cursor.{most_fields, pass_field, walk_start}
use Rattle.record.proofs.cursor.walk.Given as goal

abbrev pub invariant-loop-field : goal.invariant-loop-field
invariant-loop-field l = Counting 0 most_fields l.field (pass_field l.b) walk_start l.c
