use Rattle.live_session.proofs.status.put_note.Goals as goal

pub returns-in-TooLong : goal.returns-in-TooLong
returns-in-TooLong g c = rw c.in-TooLong.is c.write_all-in-TooLong.ensures.wrote

pub returns-in-ReadFault : goal.returns-in-ReadFault
returns-in-ReadFault g c = rw c.in-ReadFault.is c.write_all-in-ReadFault.ensures.wrote

pub returns-in-WriteFault : goal.returns-in-WriteFault
returns-in-WriteFault g c = rw c.in-WriteFault.is c.write_all-in-WriteFault.ensures.wrote

pub returns-in-NoMemory : goal.returns-in-NoMemory
returns-in-NoMemory g c = rw c.in-NoMemory.is c.write_all-in-NoMemory.ensures.wrote

pub returns-in-Usage : goal.returns-in-Usage
returns-in-Usage g c = rw c.in-Usage.is c.write_all-in-Usage.ensures.wrote
