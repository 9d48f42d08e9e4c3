use Rattle.reader.specs.ReaderLaw.{not-long, piece-refused, piece-taken}
use borrow.Author.Rules.{rules}
use Rattle.reader.proofs.take_piece.Goals as goal

pub returns-then-untimely : goal.returns-then-untimely
returns-then-untimely c = search (rules, piece-refused)

pub take_bytes-requires-clause-piece_len_bound : goal.take_bytes-requires-clause-piece_len_bound
take_bytes-requires-clause-piece_len_bound c = search (rules, not-long)

pub returns : goal.returns
returns c = search (rules, piece-taken)
