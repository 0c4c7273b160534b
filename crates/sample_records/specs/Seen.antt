-- inner
-- A record of the code as the definitions have it. This project's own profile.
use Rattle.ring_spec.specs.Records.{Record, Sample, Lost}
use Rattle.sample_records.specs.declared.record.Record.{Record as StoredRecord}
use Rattle.sample_records.specs.declared.record.Record.TheVariants as stored

-- the record of the definitions
abbrev pub seen : StoredRecord → Record
seen (stored.Sample mode body) = Sample mode body
seen (stored.Lost id lost trailer) = Lost id lost trailer
