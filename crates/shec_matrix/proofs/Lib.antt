mod CountLemmas
mod ShecRowLemmas
