-- `fields::put_row` meets its contract: the word, then the numbers. Assumes nothing.
use Rattle.fields.proofs.Written.{then}
use Rattle.fields.proofs.put_row.Goals as goal

pub returns : goal.returns
returns c = then c.put_word-next.ensures c.put_columns.ensures
