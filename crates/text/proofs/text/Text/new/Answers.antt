use Rattle.text.proofs.Contents.{whole_words, cut_words}
use Rattle.text.proofs.text.Text.new.Goals as goal

pub returns-clause-whole_where_they_fit : goal.returns-clause-whole_where_they_fit
returns-clause-whole_where_they_fit c = λ ws l. whole_words ws c.args.memory.now c.args.memory.ghost_name l

pub returns-clause-cut_off_where_not : goal.returns-clause-cut_off_where_not
returns-clause-cut_off_where_not c = λ ws l. cut_words ws c.args.memory.now c.args.memory.ghost_name l
