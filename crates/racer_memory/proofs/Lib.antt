mod FailingLemmas
mod FirstFile
mod FileLemmas
mod ReadLemmas
mod SinkLemmas
