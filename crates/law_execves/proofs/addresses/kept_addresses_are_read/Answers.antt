use Rattle.law_execves.proofs.AddressLemmas.{kept_addresses_are_read}
use Rattle.law_execves.proofs.addresses.kept_addresses_are_read.Goals as goal

pub returns : goal.returns
returns c = kept_addresses_are_read
