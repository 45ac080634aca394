mod CountLemmas
mod OrderLemmas
mod ReturnLemmas
mod RoundLemmas
mod SeatLemmas
mod SendingLemmas
mod WorkLemmas
mod NotingLemmas
