use Rattle.comparison.proofs.ReadBack.{cases_read_back}
use Rattle.comparison.proofs.CallsBack.{holder_calls_back, docket_calls_back}
use Rattle.comparison.proofs.laws.cases_keep_their_laws.Goals as goal

pub returns : goal.returns
returns c = record { cases = cases_read_back; holder_calls = holder_calls_back; docket_calls = docket_calls_back }
